-- What a lane's seat keeps after a step.
use Rattle.std.proofs.Common.{List, [], ap, length, refl, subst, sym, ℕ, ◌∙◌, ◌≡◌, ◌≤◌}
use Rattle.atomic_table.specs.Table.{Me}
use Rattle.farm_model.specs.Packages.{same}
use Rattle.farm_model.specs.declared.types.Variant.{Variant}
use Rattle.plan_model.specs.Plan.{lane, lane_outputs}
use Rattle.archive_laws.specs.Bounds.{IsRecord}
use Rattle.archive_laws.specs.Records.{Record}
use Rattle.plan_verifier.specs.Accepted.{AcceptedPlan}
use Rattle.word_archive.specs.Seats.{IsSeat}
use Rattle.word_archive.specs.Serials.{made_by}
use Rattle.word_archive.specs.Steps.{Becomes}
use Rattle.word_archive.specs.Views.{SeatView, lane_in, lane_view, record_in}

-- a seat that has this record keeps what seats keep
pub seat_holds : {S : Type 0} (me : Me S SeatView) (a : AcceptedPlan) (l : ℕ) (r : Record)
    (outs : List Variant) (serials : List ℕ) (room made : ℕ) → me ≡ (lane_view a l r, [])
    → IsRecord a.universe a.plan l r → outs ≡ lane_outputs a.universe (lane a.plan l)
    → serials ≡ r.serials → length outs ≤ room → made ≡ made_by a l r.at
    → IsSeat me l outs serials room made
seat_holds {S} me a l r outs serials room made e h o s c n =
    subst (λ (m : Me S SeatView). IsSeat m l outs serials room made) (sym e)
    (refl, h, o, s, c, n)

module _ {S : Type 0} (me : Me S SeatView) (l : ℕ) (outs : List Variant) (serials : List ℕ)
    (room made : ℕ) (seat : IsSeat me l outs serials room made) where
  -- the view is that of the seat's lane
  pub is_lane : lane_in me.0 ≡ l
  is_lane = ap (λ m. lane_in m.0) seat.0

  -- how many outputs the lane of the view has made
  pub made_here : made ≡ made_by me.0.about (lane_in me.0) (record_in me.0).at
  made_here = seat.5 ∙ ap (λ k. made_by me.0.about k (record_in me.0).at) (sym is_lane)

  -- after a step that tells of this record
  pub seat_after : (after : Me S SeatView) (r : Record) → Becomes me r after
      → (more : List ℕ) (space count : ℕ) → more ≡ r.serials → length outs ≤ space
      → count ≡ made_by me.0.about (lane_in me.0) r.at → IsSeat after l outs more space count
  seat_after after r told more space count same fits made_is =
      let a = me.0.about in
      seat_holds after a l r outs more space count
      (told.0 ∙ ap (λ k. (lane_view a k r, [])) is_lane)
      (subst (λ k. IsRecord a.universe a.plan k r) is_lane told.1) seat.2 same fits
      (made_is ∙ ap (λ k. made_by a k r.at) is_lane)
