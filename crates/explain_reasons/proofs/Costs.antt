-- What instructions add to the cost of a lane.
use Rattle.std.proofs.Common.{◌≡◌, ◌≢◌, ℕ, ◌-◌, ◌^◌, ◌<◌, Bool, true, false, length, Option, Some, None, inl, inr, is_some, refl, sym, ap, ◌∙◌, arith}
use Rattle.std.proofs.lemmas.Bool.{cases_Bool, false≢true, le-ltb, lt-ltb}
use Rattle.std.proofs.lemmas.Option.{slice_get_within}
use Rattle.farm_model.proofs.BelowLaws.{every_below-at}
use Rattle.farm_model.specs.Common.{every_below, Universe}
use Rattle.may_rows.specs.Picks.{AreOfArchive}
use Rattle.plan_model.specs.Common.{Rows, possible, lane_cost, may_at, Plan, lane, instruction_at}
use Rattle.plan_model.specs.declared.instructions.Instruction.{Instruction}
use Rattle.plan_verifier.proofs.Steps.{of_archive}
use Rattle.plan_verifier.specs.Stage.{IsStage}
use Rattle.known_rows.specs.KnownRows.{Knowledge}
use Rattle.known_rows.specs.Outputs.{PlanOutputs}
use Rattle.explain_reasons.specs.Cost.{at_most, cost_of, has_cost, is_known, lane_needs, spent_at}
use Rattle.explain_reasons.specs.declared.cost.Spent.{Spent}

-- what is in the archive at an instruction
pub archive-at : {u : Universe} {p : Plan} {tables : Universe} {outputs : PlanOutputs}
    {known : Knowledge} → IsStage u p tables outputs known → (l i : ℕ) → l < length p
    → (x : Instruction) → instruction_at p l i ≡ Some x
    → AreOfArchive u (known.rows l i) (possible u p l i)
archive-at {u} {p} {tables} {outputs} {known} stage l i lt x is =
    of_archive u p known.rows stage.sound.universe stage.keeps l i lt
    (omega (arith, slice_get_within (lane p l).instructions i x is))

module _ (u : Universe) (p : Plan) (rows : Rows) (l : ℕ) where
  -- whether the cost of the instruction at a place is known
  pub known-is : (i : ℕ) (x : Instruction) → instruction_at p l i ≡ Some x → (cost : Option ℕ)
      → cost ≡ cost_of u (rows l i) (possible u p l i) x → is_some cost ≡ has_cost u p rows l i
  known-is i x here cost is = ap is_some is ∙ sym (ap (is_known u p rows l i) here)

  abbrev are_known : ℕ → Bool
  are_known k = every_below k (has_cost u p rows l)

  -- where that of one is not, the lane's is not told
  pub not_told : (i : ℕ) → i < length (lane p l).instructions → has_cost u p rows l i ≡ false
      → lane_needs u p rows l ≡ None
  not_told i lt unknown = elim (cases_Bool (are_known (length (lane p l).instructions))) [
    | inl all ↦ absurd (false≢true (sym unknown ∙ every_below-at _ (has_cost u p rows l) i lt all))
    | inr some ↦ rw some
  ]

  -- at the end of the lane what is spent is told where it is less than the greatest `u64`
  pub needs-is : (k : ℕ) → k ≡ length (lane p l).instructions → are_known k ≡ true
      → (spent : Spent) → spent ≡ spent_at u p rows l k
      → (spent.here ≡ 2 ^ 64 - 1 → None ≡ lane_needs u p rows l)
      × (spent.here ≢ 2 ^ 64 - 1 → Some spent.here ≡ lane_needs u p rows l)
  unfolding lane_cost
  needs-is k end known spent is =
      let cost = lane_cost u p rows l in
      let here : spent.here ≡ at_most cost =
      ap (λ (s : Spent). s.here) is ∙ ap (λ j. at_most (may_at u p rows l j).cost) end in
      rw (← end, known) (
        λ full. rw (le-ltb cost (2 ^ 64 - 1) (omega (arith, here, full))) refl,
        λ less. rw (lt-ltb cost (2 ^ 64 - 1) (omega (arith, here, less)))
            (ap Some (omega (arith, here, less))),
      )
