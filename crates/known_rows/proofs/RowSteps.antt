-- The outputs of a lane are what it makes.
use Rattle.std.proofs.Common.{◌≡◌, ℕ, zero, suc, ◌≤◌, List, [], ◌∷◌, ◌++◌, length, map, take, Option, Some, slice_get, refl, sym, ap, ◌∙◌, arith}
use Rattle.std.proofs.lemmas.List.{append-nil, map-append}
use Rattle.std.proofs.lemmas.Grind.{flat_map-append}
use Rattle.farm_model.specs.Universe.{Universe}
use Rattle.farm_model.specs.declared.types.Variant.{Variant}
use Rattle.farm_laws.proofs.Archive.{take_some}
use Rattle.plan_model.specs.Plan.{Plan, lane, outputs_of}
use Rattle.plan_model.specs.declared.instructions.Instruction.{Instruction}
use Rattle.verdict_laws.proofs.Unions.{there}
use Rattle.verdict_laws.proofs.Made.{made}
use Rattle.known_rows.specs.declared.marks.Output.{Output}
use Rattle.known_rows.specs.Marks.{output_with, outputs_at, outputs_with_points}
use Rattle.known_rows.specs.Points.{last_point}

abbrev pub variant_of : Output → Variant
variant_of o = o.variant

map-variant : (point : Option ℕ) (vs : List Variant) → map variant_of (map (output_with point) vs)
    ≡ vs
map-variant point [] = refl
map-variant point (v ∷ vs) = ap (λ ws. v ∷ ws) (map-variant point vs)

made-next : (u : Universe) (is : List Instruction) (i : ℕ) (x : Instruction)
    → slice_get is i ≡ Some x → made u (take (suc i) is) ≡ made u (take i is) ++ outputs_of u x
made-next u is i x at =
    ap (made u) (take_some is i x at) ∙ flat_map-append (outputs_of u) (take i is) (x ∷ [])
    ∙ ap (λ vs. made u (take i is) ++ vs) (append-nil (outputs_of u x))

made-none : (u : Universe) → made u [] ≡ []
made-none u = refl

-- the outputs of a lane are what it makes
pub outputs-made : (u : Universe) (p : Plan) (l n : ℕ) → n ≤ length (lane p l).instructions
    → map variant_of (outputs_with_points u p l n) ≡ made u (take n (lane p l).instructions)
outputs-made u p l zero le = sym (made-none u)
outputs-made u p l (suc n) le =
    let x = there p l n (omega (arith, le)) in
    ap (λ o. map variant_of (outputs_with_points u p l n ++ outputs_at u p l n o)) x.1
    ∙ map-append variant_of (outputs_with_points u p l n) (map (output_with (last_point p l n))
    (outputs_of u x.0))
    ∙ ap (λ vs. vs ++ map variant_of (map (output_with (last_point p l n)) (outputs_of u x.0)))
    (outputs-made u p l n (omega (arith, le)))
    ∙ ap (λ vs. made u (take n (lane p l).instructions) ++ vs)
    (map-variant (last_point p l n) (outputs_of u x.0))
    ∙ sym (made-next u (lane p l).instructions n x.0 x.1)
