-- Where no lane is a cause, all lanes came to their ends.
use Rattle.std.proofs.Common.{◌≡◌, ◌⊎◌, inl, inr, ℕ, ◌<◌, true, List, length, Some, slice_get, sym, ap, ◌∙◌, arith}
use Rattle.std.proofs.lemmas.Bool.{false≢true}
use Rattle.std.proofs.lemmas.Option.{same_Some, slice_get_within}
use Rattle.chroot_state.specs.Held.{Held}
use Rattle.farm_laws.proofs.Archive.{element}
use Rattle.farm_archive.specs.declared.publication.Publication.{Publication}
use Rattle.archive_laws.specs.Records.{Record}
use Rattle.lane_runner.specs.declared.run.LaneStop.{LaneStop}
use Rattle.lane_runner.specs.declared.run.TheConstants.{GAVE_UP}
use Rattle.lane_runner.specs.OnWay.{IsEnded}
use Rattle.plan_verifier.specs.Accepted.{AcceptedPlan}
use Rattle.farm_executor.specs.declared.causes.TheConstants.{NOT_STARTED}
use Rattle.farm_executor.specs.Ends.{HasNoEndWith, IsCause}
use Rattle.farm_executor.specs.FarmRuns.{IsEndCode, IsStoppedRun}
use Rattle.farm_executor.specs.Played.{HasRun, IsPlayed}

module _ (a : AcceptedPlan) (gives_up : Type 0) (stops : List LaneStop) (chroots : List Held)
    (spent : List ℕ) (history : List Publication)
    (played : IsPlayed a gives_up stops chroots spent history) where
  -- what came of lane l
  pub record OfLane (l : ℕ) : Type 0 where
    pub stop : LaneStop
    pub chroot : Held
    pub steps : ℕ
    pub told : Record
    pub stop_at : slice_get stops l ≡ Some stop
    pub chroot_at : slice_get chroots l ≡ Some chroot
    pub steps_at : slice_get spent l ≡ Some steps
    pub told_at : slice_get played.records l ≡ Some told
    pub run : HasRun a gives_up l stop chroot steps told

  pub of_lane : (l : ℕ) → l < length a.plan → OfLane l
  of_lane l lt =
      let lanes = played.lanes in
      let e = element stops l (omega (arith, lanes.long)) in
      let c = element chroots l (omega (arith, lanes.chroots_long)) in
      let n = element spent l (omega (arith, lanes.spent_long)) in
      let r = element played.records l (omega (arith, played.closed.stands.lanes)) in
      record {
        stop = e.0;
        chroot = c.0;
        steps = n.0;
        told = r.0;
        stop_at = e.1;
        chroot_at = c.1;
        steps_at = n.1;
        told_at = r.1;
        run = lanes.each l e.0 c.0 n.0 r.0 e.1 c.1 n.1 r.1;
      }

  -- a record stands at the number of a lane of the plan, and is that lane's
  pub lane_in_plan : (l : ℕ) (r : Record) → slice_get played.records l ≡ Some r → l < length a.plan
  lane_in_plan l r at =
      let lt = slice_get_within played.records l r at in
      omega (arith, lt, played.closed.stands.lanes)

  pub told_is : (l : ℕ) (r : Record) (o : OfLane l) → slice_get played.records l ≡ Some r
      → o.told ≡ r
  told_is l r o at = same_Some o.told r (sym o.told_at ∙ at)

  -- a run of this cause is one that stopped
  pub stopped_run : (code l : ℕ) → IsCause stops code l → IsStoppedRun a gives_up stops code l
  stopped_run code l cause = record {
    long = played.lanes.long;
    codes = λ k e at. (ended_so k e at).0;
    unnamed = λ k e at code. (ended_so k e at).2 code;
    cause = cause;
    gave_up = λ k e at. (ended_so k e at).1;
  }
    where
      lane_ended : (k : ℕ) (e : LaneStop) → slice_get stops k ≡ Some e → (o : OfLane k)
          → IsEndCode e.code × (e.code ≡ GAVE_UP → gives_up)
          × ((e.code ≡ 0) ⊎ (e.code ≡ NOT_STARTED) → e.instruction ≡ 0)
      lane_ended k e at o =
          let r = played.lanes.each k e o.chroot o.steps o.told at o.chroot_at o.steps_at
          o.told_at in (
            r.end.code,
            λ up. (r.end.gave_up up).0,
            λ code. elim code [
              | inl ended ↦ r.end.whole ended
              | inr never ↦ r.end.unbegun never
            ],
          )

      ended_so : (k : ℕ) (e : LaneStop) → slice_get stops k ≡ Some e
          → IsEndCode e.code × (e.code ≡ GAVE_UP → gives_up)
          × ((e.code ≡ 0) ⊎ (e.code ≡ NOT_STARTED) → e.instruction ≡ 0)
      ended_so k e at =
          let lt = slice_get_within stops k e at in
          lane_ended k e at (of_lane k (omega (arith, lt, played.lanes.long)))

  module _ (unstarted : HasNoEndWith NOT_STARTED stops) (kept : HasNoEndWith GAVE_UP stops) where
    not_code : (code l : ℕ) (o : OfLane l) → HasNoEndWith code stops → o.stop.code ≡ code → ⊥
    not_code code l o none is =
        none l o.stop (slice_get_within stops l o.stop o.stop_at) o.stop_at is

    unhalted : (l : ℕ) (o : OfLane l) → o.told.halted ≡ true → ⊥
    unhalted l o halted =
        elim o.run.end.code [
          | inl ended ↦ false≢true (sym (o.run.end.ended ended).1 ∙ halted)
          | inr rest ↦ elim rest [
            | inl up ↦ not_code GAVE_UP l o kept up
            | inr other ↦ elim other [
              | inl told ↦ false≢true (sym (o.run.end.told told).1 ∙ halted)
              | inr never ↦ not_code NOT_STARTED l o unstarted never
            ]
          ]
        ]

    unseen : (l : ℕ) (o : OfLane l) → o.told.saw ≡ true → ⊥
    unseen l o saw =
        elim (played.closed.halts l o.told o.told_at saw) [
          | inl stopped ↦
              let e = played.lanes.halted stopped in
              unstarted e.0 e.1 (slice_get_within stops e.0 e.1 e.2) e.2 e.3
          | inr halted ↦
              let other = of_lane halted.0 (lane_in_plan halted.0 halted.1 halted.2) in
              unhalted halted.0 other
              (ap (λ (r : Record). r.halted) (told_is halted.0 halted.1 other halted.2) ∙ halted.3)
        ]

    -- each lane came to its end
    pub all_ended : (l : ℕ) (o : OfLane l)
        → IsEnded a.universe a.plan l o.steps o.chroot o.told
    all_ended l o =
        elim o.run.end.code [
          | inl ended ↦ (o.run.end.ended ended).0
          | inr rest ↦ absurd (elim rest [
            | inl up ↦ not_code GAVE_UP l o kept up
            | inr other ↦ elim other [
              | inl told ↦ unseen l o (o.run.end.told told).0
              | inr never ↦ not_code NOT_STARTED l o unstarted never
            ]
          ])
        ]
