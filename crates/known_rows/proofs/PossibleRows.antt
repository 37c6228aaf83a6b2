-- What may be in the archive at a place, as counts: all outputs of other lanes, and the own ones so
-- far.
use Rattle.std.proofs.Common.{◌≡◌, ◌≢◌, inl, inr, ℕ, ◌<◌, ◌≤◌, ◌||◌, List, [], ◌∷◌, length, take, Some, refl, sym, ap, ◌∙◌, arith}
use Rattle.std.specs.Prelude.{slice_index}
use Rattle.std.specs.List.{list_any}
use Rattle.std.proofs.lemmas.Bool.{cases_eq, eq-eqb, ne_eqb}
use Rattle.std.proofs.lemmas.List.{take_all}
use Rattle.std.proofs.lemmas.List.Folds.{list_any-append}
use Rattle.farm_model.specs.Common.{Universe, same, contains, initial}
use Rattle.farm_model.specs.declared.types.Variant.{Variant}
use Rattle.farm_model.proofs.BelowLaws.{some_below-same}
use Rattle.plan_model.specs.Common.{Plan, lane, outputs_of, lane_outputs, outputs_before, gives, possible}
use Rattle.plan_model.specs.declared.instructions.Instruction.{Instruction}
use Rattle.verdict_laws.proofs.Made.{made}
use Rattle.verdict_laws.proofs.Sets.{take-made}
use Rattle.known_rows.specs.declared.clock.Clock.{Clock}
use Rattle.known_rows.specs.Clock.{count_of, row_of}
use Rattle.known_rows.specs.Column.{count_at}
use Rattle.known_rows.specs.Columns.{counts_of}
use Rattle.known_rows.specs.Outputs.{AreTotals}

given-made : (u : Universe) (is : List Instruction) (v : Variant)
    → list_any (gives u v) is ≡ contains (made u is) v
given-made u [] v = refl
given-made u (x ∷ xs) v =
    ap (λ b. gives u v x || b) (given-made u xs v)
    ∙ sym (list_any-append (λ w. same w v) (outputs_of u x) (made u xs))

pub possible_row : (u : Universe) (p : Plan) (l i : ℕ) (x : ℕ → ℕ)
    → x l ≡ outputs_before u (lane p l) i 0
    → ((j : ℕ) → j < length p → j ≢ l → length (lane_outputs u (lane p j)) ≤ x j)
    → (v : Variant) → possible u p l i v ≡ row_of u p x v
unfolding possible
possible_row u p l i x own all v =
    ap (λ b. initial u v || b) (some_below-same (length p) _ _ (λ j lt. elim (cases_eq j l) [
      | inl here ↦
          (rw (eq-eqb j l here) refl)
          ∙ given-made u (take i (lane p j).instructions) v
          ∙ ap (λ vs. contains vs v) (sym (take-made u (lane p j).instructions i))
          ∙ ap (λ n. contains (take n (lane_outputs u (lane p j))) v)
          (let own_here = ap (λ k. outputs_before u (lane p k) i 0) here in
          let x_here = ap x here in omega (arith, own_here, own, x_here))
      | inr other ↦
          (rw (ne_eqb j l other) refl)
          ∙ given-made u (lane p j).instructions v
          ∙ ap (λ vs. contains vs v)
          (sym (take_all (x j) (lane_outputs u (lane p j)) (all j lt other)))
    ]))

-- a clock that counts the own outputs so far, and all of the other lanes
pub possible_clock : (u : Universe) (p : Plan) (l i : ℕ) (clock : Clock) → clock.lane ≡ l
    → clock.own ≡ outputs_before u (lane p l) i 0 → clock.last ≡ Some 0
    → AreTotals u p (length p) clock.columns.now
    → (v : Variant) → possible u p l i v ≡ row_of u p (count_of clock) v
possible_clock u p l i clock lane_is own_is last_is totals =
    possible_row u p l i (count_of clock) ((rw (eq-eqb l clock.lane (sym lane_is)) refl) ∙ own_is)
    (λ j lt other.
    let columns = clock.columns.now in
    let all : count_of clock j ≡ length (lane_outputs u (lane p j)) =
    (rw (ne_eqb j clock.lane (λ same. other (same ∙ lane_is))) refl)
    ∙ ap (count_at (counts_of columns j)) last_is
    ∙ ap (λ (xs : List ℕ). slice_index xs 0) (totals.each j lt) in
    omega (arith, all))
