-- Rows that agree at the places of a plan.
use Rattle.std.proofs.Common.{◌≡◌, inl, inr, ℕ, zero, suc, ◌<◌, ◌≤◌, Bool, length, Option, Some, None, refl, sym, ap, ◌∙◌, arith}
use Rattle.std.proofs.lemmas.Option.{slice_get_within}
use Rattle.farm_model.specs.Universe.{Universe}
use Rattle.farm_model.specs.declared.types.Variant.{Variant}
use Rattle.plan_model.specs.Common.{Plan, lane, instruction_at, Rows, possible, row_before, Maps, maps_behind_some, maps_at, may_at, lane_cost, risk, Hazard, risk_of, risk_at, parts_of, hazard_of, hazard_at}
use Rattle.plan_model.specs.declared.instructions.Instruction.{Instruction}
use Rattle.verdict_laws.proofs.RowBefore.{row_before-le}
use Rattle.verdict_laws.proofs.Unions.{Adds-mono}
use Rattle.verdict_laws.specs.Places.{IsJustified}
use Rattle.verdict_laws.specs.Agreeing.{Agree, AgreeingRowsAreAlike}

pub agree_back : (p : Plan) (rows other : Rows) → Agree p rows other → Agree p other rows
agree_back p rows other same l i v lt le = sym (same l i v lt le)

-- two tests that answer the same are one
same_test : (f g : Variant → Bool) → ((v : Variant) → f v ≡ g v) → f ≡ g
same_test f g h = λ i v. h v i

module _ (u : Universe) (p : Plan) (rows other : Rows) (same : Agree p rows other) where
  justified : (l i : ℕ) → l < length p → IsJustified u p rows l i → IsJustified u p other l i
  justified l zero lt j = λ v e. j v (same l 0 v lt (omega arith) ∙ e)
  justified l (suc i) lt j = λ x v at e.
      let below = slice_get_within (lane p l).instructions i x at in
      let back = row_before-le p l i x in
      elim (j x v at (same l (suc i) v lt (omega (arith, below)) ∙ e)) [
        | inl old ↦
            inl (sym (same l (row_before p l i x) v lt (omega (arith, below, back))) ∙ old)
        | inr new ↦ inr (Adds-mono u p rows other l i v x
            (λ k j w k_lt j_le h. sym (same k j w k_lt j_le) ∙ h) new)
      ]

  row : (l i : ℕ) → l < length p → i ≤ length (lane p l).instructions → rows l i ≡ other l i
  row l i lt le = same_test (rows l i) (other l i) (λ v. same l i v lt le)

  maps : (l i : ℕ) → l < length p → i ≤ length (lane p l).instructions
      → maps_at u p rows l i ≡ maps_at u p other l i
  maps l zero lt le = refl
  maps l (suc i) lt le =
      ap (λ m. maps_behind_some u (rows l i) (possible u p l i) m (instruction_at p l i))
      (maps l i lt (omega (arith, le)))
      ∙ ap (λ r. maps_behind_some u r (possible u p l i) (maps_at u p other l i)
      (instruction_at p l i)) (row l i lt (omega (arith, le)))

  -- what is unsafe at an instruction, or at none
  abbrev hazard_some : Rows → ℕ → ℕ → Option Instruction → Option Hazard
  hazard_some r l i o = hazard_of (risk_of u p r l i o) (parts_of u (maps_at u p r l i) o)

  hazards : (l i : ℕ) → l < length p → hazard_at u p rows l i ≡ hazard_at u p other l i
  unfolding hazard_at risk_at
  hazards l i lt = by (instruction_at p l i) refl
    where
      by : (o : Option Instruction) → instruction_at p l i ≡ o
          → hazard_some rows l i (instruction_at p l i)
          ≡ hazard_some other l i (instruction_at p l i)
      by None at = ap (hazard_some rows l i) at ∙ sym (ap (hazard_some other l i) at)
      by (Some x) at =
          let below = slice_get_within (lane p l).instructions i x at in
          let le : i ≤ length (lane p l).instructions = omega (arith, below) in
          ap (hazard_some rows l i) at
          ∙ ap (λ m. hazard_of (risk u (lane p l) (rows l i) (possible u p l i) m.here x)
          (parts_of u m (Some x))) (maps l i lt le)
          ∙ ap (λ r. hazard_of (risk u (lane p l) r (possible u p l i) (may_at u p other l i) x)
          (parts_of u (maps_at u p other l i) (Some x))) (row l i lt le)
          ∙ sym (ap (hazard_some other l i) at)

  costs : (l : ℕ) → l < length p → lane_cost u p rows l ≡ lane_cost u p other l
  unfolding lane_cost
  costs l lt =
      ap (λ (m : Maps). m.here.cost) (maps l (length (lane p l).instructions) lt (omega arith))

pub agreeing_rows_are_alike : AgreeingRowsAreAlike
agreeing_rows_are_alike u p rows other same =
    record {
      justified = λ l i lt. (
        justified u p rows other same l i lt,
        justified u p other rows (agree_back p rows other same) l i lt,
      );
      hazards = λ l i lt. hazards u p rows other same l i lt;
      costs = λ l lt. costs u p rows other same l lt;
    }
