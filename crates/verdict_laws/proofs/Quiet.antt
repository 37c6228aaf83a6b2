-- Lanes that neither wait nor publish nor take a branch.
use Rattle.std.proofs.Common.{◌≡◌, inl, inr, ℕ, suc, ◌<◌, ◌≤◌, true, false, length, arith}
use Rattle.farm_model.specs.Common.{Universe, initial}
use Rattle.farm_model.specs.declared.types.Variant.{Variant}
use Rattle.plan_model.specs.Common.{Plan, lane, Rows, teaches, Adds, row_before, KeepsRows}
use Rattle.plan_model.specs.declared.instructions.Instruction.{Instruction}
use Rattle.plan_model.specs.declared.instructions.Instruction.TheVariants.{Publish, Wait, When}
use Rattle.verdict_laws.proofs.RowBefore.{row_before-le, each_place}
use Rattle.verdict_laws.proofs.Unions.{there}
use Rattle.verdict_laws.specs.Families.{HasNoNews, InitialRowsAreGreatest}

-- such an instruction adds nothing
pub adds_nothing : (u : Universe) (p : Plan) (rows : Rows) (l i : ℕ) (v : Variant) (x : Instruction)
    → teaches x ≡ false → Adds u p rows l i v x → ⊥
adds_nothing u p rows l i v (Publish r) quiet add = cc
adds_nothing u p rows l i v (Wait e) quiet add = cc
adds_nothing u p rows l i v (When name wanted) quiet add = cc
adds_nothing u p rows l i v _ quiet add = add

-- what any rows that keep to the inclusions have is initial
module _ (u : Universe) (p : Plan) (rows : Rows) (quiet : HasNoNews p) (keeps : KeepsRows u p rows)
    (l : ℕ) (lt : l < length p) where
  abbrev InitialAt : ℕ → Type 0
  InitialAt i = (v : Variant) → i ≤ length (lane p l).instructions → rows l i v ≡ true
      → initial u v ≡ true

  initial_behind : (i : ℕ) → ((k : ℕ) → k ≤ i → InitialAt k) → InitialAt (suc i)
  initial_behind i before v le e =
      let x = there p l i (omega (arith, le)) in
      let back = row_before-le p l i x.0 in
      elim (keeps.after l i x.0 v lt x.1 e) [
        | inl old ↦ before (row_before p l i x.0) back v (omega (arith, back, le)) old
        | inr new ↦ absurd (adds_nothing u p rows l i v x.0 (quiet l i x.0 lt x.1) new)
      ]

  initial_at : (i : ℕ) → InitialAt i
  initial_at = each_place InitialAt (λ v le e. keeps.at_start l v lt e) initial_behind

pub initial_rows_are_greatest : InitialRowsAreGreatest
initial_rows_are_greatest u p quiet =
    record {
      keeps = record { at_start = λ l v lt e. e; after = λ l i x v lt at e. inl e };
      greatest = λ other keeps l i v lt le e. initial_at u p other quiet keeps l lt i v le e;
    }
