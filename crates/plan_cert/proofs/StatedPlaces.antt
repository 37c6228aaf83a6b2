-- The rows of the places of a plan, lane by lane.
use Rattle.std.proofs.Common.{◌≡◌, ℕ, ◌+◌, ◌<◌, List, [], ◌∷◌, ◌++◌, length, get_or, slice_index_or, All, inl, inr, sym, ap, subst, ◌∙◌, arith}
use Rattle.std.proofs.lemmas.Bool.{cases_eq}
use Rattle.std.proofs.lemmas.List.{length-append, get_or_append_left}
use Rattle.std.proofs.Math.Seq.{get_or-append_seam}
use Rattle.cert_text.specs.Certificates.{IsNewRow}
use Rattle.farm_model.specs.Universe.{Universe}
use Rattle.plan_model.specs.Common.{Rows, Plan, lane}
use Rattle.plan_cert.specs.PlaceRows.{ArePlaceRows, IsExtended, AreRowNumbers}
use Rattle.plan_cert.proofs.PlaceLaws.{numbers_kept}
use Rattle.plan_cert.specs.Places.{AreRowsOfLanes}

-- one more lane
pub rows_next : (u : Universe) (p : Plan) (known : Rows) (n : ℕ)
    (places more_places rows more : List (List ℕ)) (new : List ℕ) → more_places ≡ places ++ new ∷ []
    → AreRowsOfLanes u p known n places rows → IsExtended u rows more
    → AreRowNumbers u (known n) (length (lane p n).instructions) new more
    → AreRowsOfLanes u p known (n + 1) more_places more
rows_next u p known n places more_places rows more new items so_far ext is =
    subst (λ ps. AreRowsOfLanes u p known (n + 1) ps more) (sym items) (record {
      long = length-append places (new ∷ []) ∙ ap (λ k. k + 1) so_far.long;
      each = λ l lt. elim (cases_eq l n) [
        | inl here ↦
            let at : slice_index_or (places ++ new ∷ []) l [] ≡ new =
            ap (λ k. get_or (places ++ new ∷ []) k []) (here ∙ sym so_far.long)
            ∙ get_or-append_seam places new [] [] in
            subst (λ ns. AreRowNumbers u (known l) (length (lane p l).instructions) ns more)
            (sym at)
            (subst (λ k. AreRowNumbers u (known k) (length (lane p k).instructions) new more)
            (sym here) is)
        | inr other ↦
            let below : l < n = omega (arith, lt, other) in
            subst (λ ns. AreRowNumbers u (known l) (length (lane p l).instructions) ns more)
            (sym (get_or_append_left places (new ∷ []) [] l (omega (arith, below, so_far.long))))
            (numbers_kept u (known l) (length (lane p l).instructions)
            (slice_index_or places l []) rows more ext (so_far.each l below))
      ];
    })

pub rows_kept : (u : Universe) (p : Plan) (known : Rows) (places rows : List (List ℕ))
    → AreRowsOfLanes u p known (length p) places rows → All (IsNewRow u) rows
    → ArePlaceRows u p places rows
rows_kept u p known places rows are all_new =
    record {
      lanes = are.long;
      each = λ l lt. (are.each l lt).long;
      within = λ l i lt le. ((are.each l lt).each i le).within;
      rows = all_new;
    }
