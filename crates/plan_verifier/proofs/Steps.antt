-- From one place of a lane to the next.
use Rattle.std.proofs.Common.{◌≡◌, ℕ, suc, ◌<◌, ◌≤◌, nat_lt, Bool, true, sym, ap, ◌∙◌, List, length, get_or, Some, None, arith}
use Rattle.std.specs.Prelude.{slice_get}
use Rattle.std.proofs.lemmas.Bool.{and_parts, and_from}
use Rattle.std.proofs.lemmas.Option.{slice_get-get_or}
use Rattle.bit_rows.specs.Sets.{variants_of, IsSubset}
use Rattle.farm_model.specs.Common.{Universe, variant, variants, IsUniverse}
use Rattle.farm_model.specs.declared.types.Variant.{Variant}
use Rattle.may_rows.specs.Picks.{AreOfArchive}
use Rattle.plan_model.specs.Common.{Lane, Plan, lane, instruction_at, Rows, KeepsRows, possible, maps_behind, maps_behind_some, maps_at, may_at, risk, risk_of, risk_at, parts_of, hazard_of, hazard_at}
use Rattle.plan_model.specs.declared.instructions.Instruction.{Instruction}
use Rattle.sat_rows.specs.Rows.{IsRowOf}
use Rattle.verdict_laws.proofs.Inclusions.{possible-known}
use Rattle.verdict_laws.proofs.Unions.{known_are_possible}

module _ (u : Universe) (p : Plan) (rows : Rows) (l i : ℕ) (x : Instruction)
    (is : instruction_at p l i ≡ Some x) where
  -- the maps behind the instruction
  pub maps-next : maps_at u p rows l (suc i) ≡ maps_behind u (rows l i) (possible u p l i)
      (maps_at u p rows l i) x
  maps-next = ap (maps_behind_some u (rows l i) (possible u p l i) (maps_at u p rows l i)) is

  -- a trap is a hazard, and so are branches that part
  pub hazard-is : hazard_at u p rows l i
      ≡ hazard_of (risk u (lane p l) (rows l i) (possible u p l i) (may_at u p rows l i) x)
      (parts_of u (maps_at u p rows l i) (Some x))
  unfolding hazard_at risk_at
  hazard-is =
      ap (λ o. hazard_of (risk_of u p rows l i o) (parts_of u (maps_at u p rows l i) o)) is

-- what is known may be there
pub subset_rows : (u : Universe) (p q : Variant → Bool) (row there : List ℕ)
    → IsRowOf u p row → IsRowOf u q there → ((v : Variant) → p v ≡ true → q v ≡ true)
    → IsSubset (variants_of row) (variants_of there)
subset_rows u p q row there is may within n b e =
    let parts = and_parts (nat_lt b (variants u n)) _ (sym (is.set n b) ∙ e) in
    may.set n b ∙ and_from _ _ parts.0 (within (variant n b) parts.1)

module _ (u : Universe) (p : Plan) (rows : Rows) (sound : IsUniverse u) (keeps : KeepsRows u p rows)
    (l i : ℕ) (lt : l < length p) (le : i ≤ length (lane p l).instructions) where
  pub of_archive : AreOfArchive u (rows l i) (possible u p l i)
  of_archive = record {
    known_there = λ v. known_are_possible u p rows keeps l i v lt le;
    there_known = λ v. possible-known u sound p l i v;
  }

  pub known_within : (row there : List ℕ) → IsRowOf u (rows l i) row
      → IsRowOf u (possible u p l i) there → IsSubset (variants_of row) (variants_of there)
  known_within row there is may =
      subset_rows u (rows l i) (possible u p l i) row there is may of_archive.known_there

-- past the end of a lane nothing may go wrong
pub hazard-past : (u : Universe) (p : Plan) (rows : Rows) (l i : ℕ) → instruction_at p l i ≡ None
    → hazard_at u p rows l i ≡ None
unfolding hazard_at risk_at
hazard-past u p rows l i is =
    ap (λ o. hazard_of (risk_of u p rows l i o) (parts_of u (maps_at u p rows l i) o)) is

pub instruction-is : (p : Plan) (l i : ℕ) (of : Lane) (xs : List Instruction) (x : Instruction)
    → of ≡ lane p l → xs ≡ of.instructions → i < length xs → x ≡ get_or xs i x
    → instruction_at p l i ≡ Some x
instruction-is p l i of xs x is same lt here =
    ap (λ ys. slice_get ys i) (sym (same ∙ ap (λ (o : Lane). o.instructions) is))
    ∙ (slice_get-get_or xs i x lt ∙ ap Some (sym here))

-- a place of the lane is one of its list
pub below-lane : (p : Plan) (l i : ℕ) (of : Lane) (xs : List Instruction) → of ≡ lane p l
    → xs ≡ of.instructions → i < length (lane p l).instructions → i < length xs
below-lane p l i of xs is same lt =
    let long = ap length (same ∙ ap (λ (o : Lane). o.instructions) is) in omega (arith, long, lt)
