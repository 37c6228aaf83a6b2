-- A lane at its end, by its parts.
use Rattle.std.proofs.Common.{◌≡◌, ℕ, List, length, Some, slice_get, slice_index_or, sym, ap, ◌∙◌}
use Rattle.chroot_state.specs.Held.{Held}
use Rattle.farm_model.specs.Universe.{Universe}
use Rattle.plan_model.specs.Plan.{Plan, lane}
use Rattle.farm_report.specs.RunText.{lane_done_text, lane_end_text}
use Rattle.farm_report.specs.StateText.{lane_lines}

pub end_is : (u : Universe) (p : Plan) (chroots : List Held) (spent : List ℕ) (l : ℕ)
    (name : List ℕ)
    (done cost : ℕ) (c : Held) → name ≡ (lane p l).name → done ≡ length (lane p l).instructions
    → cost ≡ slice_index_or spent l 0 → slice_get chroots l ≡ Some c
    → lane_lines u name done cost c.slots ≡ lane_end_text u p chroots spent l
end_is u p chroots spent l name done cost c named finished costs held =
    (λ i. lane_lines u (named i) (finished i) (costs i) c.slots)
    ∙ ap (λ h. lane_done_text u (lane p l) h (slice_index_or spent l 0)) (sym held)
