-- Waits and `when`s, in one: instructions that look for something.
use Rattle.std.proofs.Common.{◌≡◌, ◌⊎◌, inl, inr, ℕ, Bool, [], Some, refl, sym, subst, arith}
use Rattle.std.proofs.lemmas.Option.{none-some, same_Some}
use Rattle.farm_model.specs.Common.{Universe, satisfies_entry}
use Rattle.farm_model.specs.declared.types.Variant.{Variant}
use Rattle.plan_model.specs.Common.{Plan, outputs_of, is_of, row_before}
use Rattle.plan_model.specs.declared.instructions.Instruction.{Instruction}
use Rattle.plan_model.specs.declared.instructions.Instruction.TheVariants.{Wait, When}
use Rattle.verdict_laws.specs.Clocks.{Clocks, LeadsAll, ClockAdds, Learns}
use Rattle.known_rows.specs.Points.{asked, one_point}

-- what an instruction looks for
pub record Asks (u : Universe) (x : Instruction) : Type 0 where
  pub test : Variant → Bool
  pub is : asked u x ≡ Some test

-- it is no point, or looks for something
pub quiet_or_asks : (u : Universe) (x : Instruction) → (one_point x ≡ 0) ⊎ Asks u x
quiet_or_asks u (Wait e) = inr (record { test = satisfies_entry u e; is = refl })
quiet_or_asks u (When name wanted) = inr (record { test = is_of u name wanted; is = refl })
quiet_or_asks u _ = inl refl

module _ (u : Universe) (test : Variant → Bool) where
  pub asks-one : (x : Instruction) → asked u x ≡ Some test → one_point x ≡ 1
  asks-one (Wait e) is = refl
  asks-one (When name wanted) is = refl
  asks-one _ is = absurd (none-some test is)

  pub asks-row : (p : Plan) (l i : ℕ) (x : Instruction) → asked u x ≡ Some test
      → row_before p l i x ≡ i
  asks-row p l i (Wait e) is = refl
  asks-row p l i (When name wanted) is = refl
  asks-row p l i _ is = absurd (none-some test is)

  pub asks-makes : (x : Instruction) → asked u x ≡ Some test → outputs_of u x ≡ []
  asks-makes (Wait e) is = refl
  asks-makes (When name wanted) is = refl
  asks-makes _ is = absurd (none-some test is)

  module _ (p : Plan) (y : Clocks) (l i j n : ℕ) where
    pub learns-asked : (x : Instruction) → asked u x ≡ Some test → Learns u p y l i j n x
        → LeadsAll u p y l i j n test
    learns-asked (Wait e) is learns =
        subst (LeadsAll u p y l i j n) (same_Some (satisfies_entry u e) test is) learns
    learns-asked (When name wanted) is learns =
        subst (LeadsAll u p y l i j n) (same_Some (is_of u name wanted) test is) learns
    learns-asked _ is learns = absurd learns

    pub adds-asked : (x : Instruction) → asked u x ≡ Some test → ((j ≡ l) → ⊥)
        → LeadsAll u p y l i j n test → ClockAdds u p y l i j n x
    adds-asked (Wait e) is other leads = (
      other,
      subst (LeadsAll u p y l i j n) (sym (same_Some (satisfies_entry u e) test is))
          leads,
    )
    adds-asked (When name wanted) is other leads = (
      other,
      subst (LeadsAll u p y l i j n) (sym (same_Some (is_of u name wanted) test is))
          leads,
    )
    adds-asked _ is other leads = absurd (none-some test is)

module _ (u : Universe) (p : Plan) (y : Clocks) (l i j n : ℕ) where
  pub learns-quiet : (x : Instruction) → one_point x ≡ 0 → Learns u p y l i j n x → ⊥
  learns-quiet (Wait e) none learns = omega (arith, none)
  learns-quiet (When name wanted) none learns = omega (arith, none)
  learns-quiet _ none learns = learns
