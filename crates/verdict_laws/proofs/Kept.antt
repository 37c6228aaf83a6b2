-- The greatest rows lose nothing along a lane: else what was lost could be added to them.
use Rattle.std.proofs.Common.{◌≡◌, inl, inr, ℕ, zero, suc, Bool, true, false, ◌||◌, Option, Some, None, ap, ◌∙◌, sym, arith}
use Rattle.std.proofs.lemmas.Bool.{or_cases, or_left, or_right}
use Rattle.std.proofs.lemmas.Option.{slice_get_within}
use Rattle.farm_model.specs.Universe.{Universe}
use Rattle.farm_model.specs.declared.types.Variant.{Variant}
use Rattle.plan_model.specs.Common.{Plan, lane, instruction_at, Rows, row_before, KeepsRows, initial_rows}
use Rattle.plan_model.specs.declared.instructions.Instruction.{Instruction}
use Rattle.verdict_laws.proofs.Unions.{Adds-mono}
use Rattle.verdict_laws.specs.Carried.{GreatestIsCarried}

initial_keep : (u : Universe) (p : Plan) → KeepsRows u p (initial_rows u)
initial_keep u p = record { at_start = λ l v lt e. e; after = λ l i x v lt at e. inl e }

module _ (u : Universe) (p : Plan) (rows : Rows) (keeps : KeepsRows u p rows) where
  -- what the row behind an instruction goes on from
  abbrev gone_on : ℕ → ℕ → Variant → Option Instruction → Bool
  gone_on l i v None = false
  gone_on l i v (Some x) = rows l (row_before p l i x) v

  -- each row with what it goes on from
  abbrev carried : Rows
  carried l zero v = rows l 0 v
  carried l (suc i) v = rows l (suc i) v || gone_on l i v (instruction_at p l i)

  carried-more : (l i : ℕ) (v : Variant) → rows l i v ≡ true → carried l i v ≡ true
  carried-more l zero v e = e
  carried-more l (suc i) v e = or_left (rows l (suc i) v) _ e

  carried-keep : KeepsRows u p carried
  carried-keep =
      record {
        at_start = λ l v lt e. keeps.at_start l v lt e;
        after = λ l i x v lt at e. elim (or_cases (rows l (suc i) v) _ e) [
          | inl now ↦ elim (keeps.after l i x v lt at now) [
            | inl old ↦ inl (carried-more l (row_before p l i x) v old)
            | inr new ↦ inr (Adds-mono u p rows carried l i v x
                (λ k j w k_lt j_le h. carried-more k j w h) new)
          ]
          | inr before ↦ inl (carried-more l (row_before p l i x) v
              (sym (ap (gone_on l i v) at) ∙ before))
        ];
      }

pub greatest_is_carried : GreatestIsCarried
greatest_is_carried u p rows is =
    record {
      initial_known =
          λ l i v lt le e. is.greatest (initial_rows u) (initial_keep u p) l i v lt le e;
      kept = λ l i x v lt at e.
          let below = slice_get_within (lane p l).instructions i x at in
          is.greatest (carried u p rows is.keeps) (carried-keep u p rows is.keeps) l (suc i) v lt
          (omega (arith, below))
          (or_right (rows l (suc i) v) _ (ap (gone_on u p rows is.keeps l i v) at ∙ e));
    }
