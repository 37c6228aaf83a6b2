-- The publishes of a lane, instruction by instruction.
use Rattle.std.proofs.Common.{◌≡◌, inl, inr, ℕ, ◌+◌, ◌==◌, false, List, [], ◌∷◌, ◌++◌, Some, sym, ap, ◌∙◌, arith}
use Rattle.std.proofs.lemmas.Bool.{cases_eq, or_left, or_right, eq-eqb}
use Rattle.std.proofs.lemmas.List.Folds.{list_any-append}
use Rattle.farm_model.specs.Chroot.{member}
use Rattle.plan_model.specs.Common.{published_by, Plan, instruction_at}
use Rattle.plan_model.specs.declared.instructions.Instruction.{Instruction}
use Rattle.plan_model.specs.declared.instructions.Instruction.TheVariants.{Publish}
use Rattle.plan_cert.specs.Origins.{HasPublishes}

pub publish_more : (p : Plan) (l n : ℕ) (places : List ℕ) → HasPublishes p l n places
    → HasPublishes p l (n + 1) (places ++ n ∷ [])
publish_more p l n places has i r lt at =
    list_any-append (λ j. j == i) places (n ∷ [])
    ∙ elim (cases_eq i n) [
      | inl same ↦ or_right (member places i) _ (or_left _ false (eq-eqb n i (sym same)))
      | inr other ↦ or_left _ _ (has i r (omega (arith, lt, other)) at)
    ]

pub publish_none : (p : Plan) (l n : ℕ) (places : List ℕ) (x : Instruction)
    → instruction_at p l n ≡ Some x → published_by x ≡ [] → HasPublishes p l n places
    → HasPublishes p l (n + 1) places
publish_none p l n places x here none has i r lt at = elim (cases_eq i n) [
  | inl same ↦
      let is : x ≡ Publish r = cc (here, at, same) in
      let none_is : r ∷ [] ≡ [] = ap published_by (sym is) ∙ none in cc
  | inr other ↦ has i r (omega (arith, lt, other)) at
]
