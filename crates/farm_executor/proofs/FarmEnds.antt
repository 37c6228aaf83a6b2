-- What a run comes to whose lanes all came to their ends.
use Rattle.std.proofs.Common.{◌≡◌, ℕ, List, length, Some, slice_get, arith, sym, subst, ◌∙◌, ◌<◌}
use Rattle.std.proofs.lemmas.Option.{same_Some, slice_get_within}
use Rattle.chroot_state.specs.Held.{Held}
use Rattle.farm_archive.specs.declared.publication.Publication.{Publication}
use Rattle.lane_runner.specs.OnWay.{IsEnded}
use Rattle.lane_runner.specs.declared.run.LaneStop.{LaneStop}
use Rattle.lane_runner.specs.declared.run.TheConstants.{GAVE_UP}
use Rattle.plan_verifier.specs.Accepted.{AcceptedPlan, IsAccepted}
use Rattle.farm_executor.specs.declared.causes.TheConstants.{NOT_STARTED}
use Rattle.farm_executor.specs.Ends.{HasNoEndWith}
use Rattle.farm_executor.specs.FarmRuns.{HasCome, IsFarmRun}
use Rattle.farm_executor.specs.Played.{IsPlayed}
use Rattle.farm_executor.proofs.Codes.{OfLane, all_ended, of_lane}
use Rattle.farm_executor.proofs.Comes.{state, reachable, finished, has_come, published_is}
use Rattle.farm_executor.proofs.Numbers.{numbered}

module _ (a : AcceptedPlan) (accepted : IsAccepted a) (gives_up : Type 0) (stops : List LaneStop)
    (chroots : List Held) (spent : List ℕ) (history : List Publication)
    (played : IsPlayed a gives_up stops chroots spent history)
    (unstarted : HasNoEndWith NOT_STARTED stops) (kept : HasNoEndWith GAVE_UP stops) where
  each_ended : (l : ℕ) (o : OfLane a gives_up stops chroots spent history played l)
      → IsEnded a.universe a.plan l o.steps o.chroot o.told
  each_ended = all_ended a gives_up stops chroots spent history played unstarted kept

  lane_has_come : (l : ℕ) (c : Held) (n : ℕ) → slice_get chroots l ≡ Some c
      → slice_get spent l ≡ Some n
      → HasCome a (state a accepted gives_up stops chroots spent history played each_ended) l c n
  lane_has_come l c n at cost =
      let lt = slice_get_within chroots l c at in
      let in_plan : l < length a.plan = omega (arith, lt, played.lanes.chroots_long) in
      let o = of_lane a gives_up stops chroots spent history played l in_plan in
      subst (HasCome a (state a accepted gives_up stops chroots spent history played each_ended) l
      c)
      (same_Some o.steps n (sym o.steps_at ∙ cost))
      (subst (λ d. HasCome a (state a accepted gives_up stops chroots spent history played
      each_ended) l d o.steps) (same_Some o.chroot c (sym o.chroot_at ∙ at))
      (has_come a accepted gives_up stops chroots spent history played each_ended l in_plan o))

  pub farm_run : IsFarmRun a chroots spent history
  farm_run = record {
    state = state a accepted gives_up stops chroots spent history played each_ended;
    reached = reachable a accepted gives_up stops chroots spent history played each_ended;
    finished = finished a accepted gives_up stops chroots spent history played each_ended;
    long = (played.lanes.chroots_long, played.lanes.spent_long);
    lanes = lane_has_come;
    published = published_is a accepted gives_up stops chroots spent history played each_ended;
    numbered = numbered a accepted gives_up stops chroots spent history played each_ended;
  }
