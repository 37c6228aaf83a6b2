-- How many outputs each lane makes in all, lane by lane.
use Rattle.std.proofs.Common.{◌≡◌, inl, inr, ℕ, ◌+◌, List, [], ◌∷◌, ◌++◌, length, get_or, sym, ap, ◌∙◌, arith}
use Rattle.std.proofs.Math.Seq.{get_or-append_seam}
use Rattle.std.proofs.lemmas.Bool.{cases_eq}
use Rattle.std.proofs.lemmas.List.{length-append, get_or_append_left}
use Rattle.farm_model.specs.Universe.{Universe}
use Rattle.plan_model.specs.Plan.{Plan, lane, lane_outputs}
use Rattle.known_rows.specs.Outputs.{AreTotals}

-- one more lane
pub totals_next : (u : Universe) (p : Plan) (n total : ℕ) (totals : List (List ℕ))
    → AreTotals u p n totals → total ≡ length (lane_outputs u (lane p n))
    → AreTotals u p (n + 1) (totals ++ (total ∷ []) ∷ [])
totals_next u p n total totals so_far is = record {
  long = length-append totals ((total ∷ []) ∷ []) ∙ ap (λ k. k + 1) so_far.long;
  each = λ j lt. elim (cases_eq j n) [
    | inl here ↦
        ap (λ k. get_or (totals ++ (total ∷ []) ∷ []) k []) (here ∙ sym so_far.long)
        ∙ get_or-append_seam totals (total ∷ []) [] []
        ∙ ap one is ∙ ap (λ k. one (length (lane_outputs u (lane p k)))) (sym here)
    | inr other ↦
        get_or_append_left totals ((total ∷ []) ∷ []) [] j (omega (arith, lt, other, so_far.long))
        ∙ so_far.each j (omega (arith, lt, other))
  ];
}
  where
    one : ℕ → List ℕ
    one k = k ∷ []
