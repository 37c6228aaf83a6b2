use Rattle.std.proofs.Common.{◌≡◌, ◌⊎◌, inl, inr, ℕ, true, List, map, sym, ap, subst, ◌∙◌, arith}
use Rattle.std.proofs.lemmas.Option.{slice_get_within}
use Rattle.std.proofs.lemmas.Bool.{false≢true}
use Rattle.std.proofs.Crossing.{crosses}
use denote.Param.Send.{sendable}
use Rattle.atomic_table.proofs.shared.Seat.TheSendSync as seat
use Rattle.atomic_table.proofs.shared.Shared.TheSendSync as shared
use Rattle.atomic_table.proofs.send_lease.SendLease.TheSendSync as lease
use Rattle.atomic_table.specs.Seated.{TableId}
use Rattle.chroot_state.specs.Held.{Held}
use Rattle.archive_laws.specs.Records.{Record}
use Rattle.lane_runner.specs.declared.run.LaneStop.{LaneStop}
use Rattle.plan_verifier.specs.Accepted.{AcceptedPlan}
use Rattle.word_archive.specs.Seats.{LaneSeatsOf}
use Rattle.farm_executor.specs.declared.base.BaseSeat.{BaseSeat}
use Rattle.farm_executor.specs.declared.lanes.LaneEnd.{LaneEnd}
use Rattle.farm_executor.specs.declared.link.Link.{Link}
use Rattle.farm_executor.specs.Played.{WereRun}
use Rattle.farm_executor.specs.Seated.{IsSeatOf}
use Rattle.farm_executor.proofs.Crossing.{accepted_sync}
use Rattle.farm_executor.proofs.GivenBack.{mapped_twice}
use Rattle.farm_executor.proofs.Pairs.{some_at}
use Rattle.farm_executor.proofs.WereRun.{base_table, base_about, end_run, end_seat, job_ready, were_run}
use Rattle.farm_executor.proofs.outcomes.run_seats.Goals as goal

pub run_lanes-requires-send-E : goal.run_lanes-requires-send-E
run_lanes-requires-send-E g c κs within =
    let a = accepted_sync in
    search (seat.the_send, shared.the_sync, lease.the_sync, crosses, sendable) depth 60 fits 50000

pub run_lanes-requires-sync-Q : goal.run_lanes-requires-sync-Q
run_lanes-requires-sync-Q g c κs within = let a = accepted_sync in search sendable depth 20

pub run_lanes-requires-clause-ready : goal.run_lanes-requires-clause-ready
run_lanes-requires-clause-ready g c κs within k j is =
    let lt = slice_get_within c.in_ok-jobs.jobs.items k j is in
    job_ready c.args.archive.now.table.shared.table_id c.args.accepted.now k j.lane j.chroot
    j.end.seat (omega (arith, lt, c.in_ok-jobs.ensures.long)) (c.in_ok-jobs.ensures.each k j is)

pub give_back-requires-clause-seats : goal.give_back-requires-clause-seats
give_back-requires-clause-seats g c k e is =
    let t = c.args.archive.now.table.shared.table_id in
    let a = c.args.accepted.now in
    let d = some_at c.in_ok-ends.ends.items c.in_ok-jobs.jobs.items k e
    (sym c.in_ok-ends.ensures.long) is in
    let j = d.0 in
    let ended = c.in_ok-ends.ensures.each k j e d.1 is in
    let here = end_seat t a k j.lane j.chroot j.end.seat e.end.seat
    (c.in_ok-jobs.ensures.each k j d.1) ended.0 in
    let old : LaneSeatsOf = c.in_ok-jobs.seats in
    let new : LaneSeatsOf = c.in_ok-ends.base.seats in
    let base : (new ≡ old) ⊎ (new ≡ record old { stopped = true }) =
    elim c.in_ok-ends.ensures.base [
      | inl same ↦ inl (ap (λ (b : BaseSeat). b.seats) same)
      | inr stopped ↦ inr stopped.0
    ] in
    let table = base_table old new base ∙ c.in_ok-jobs.ensures.seats.table
    ∙ ap (λ (s : LaneSeatsOf). s.table) c.requires.seats in
    let about = base_about old new base ∙ c.in_ok-jobs.ensures.seats.about
    ∙ ap (λ (s : LaneSeatsOf). s.about) c.requires.seats ∙ c.requires.about in
    subst (λ (m : TableId × AcceptedPlan). IsSeatOf m.0 m.1 k e.end.seat)
    (λ i. (sym table i, sym about i)) here

pub returns-clause-were : goal.returns-clause-were
returns-clause-were g c =
    let t = c.args.archive.now.table.shared.table_id in
    let a = c.args.accepted.now in
    let gives_up = g.G.Gate.may_give_up c.args.gate.now in
    let ends = c.in_ok-ends.ends.items in
    let back = c.give_back.ensures in
    let log : LaneEnd Link → Record = λ e. e.end.seat.log in
    let run = were_run (λ (e : LaneEnd Link). e.stop) (λ e. e.chroot) (λ e. e.spent) log ends a
    gives_up (c.in_ok-ends.ensures.long ∙ c.in_ok-jobs.ensures.long)
    (λ k e is.
    let d = some_at ends c.in_ok-jobs.jobs.items k e (sym c.in_ok-ends.ensures.long) is in
    let j = d.0 in
    end_run t a gives_up k j.lane j.chroot e.chroot j.end.seat e.end.seat.log e.stop e.spent
    (c.in_ok-jobs.ensures.each k j d.1) (c.in_ok-ends.ensures.each k j e d.1 is).1 e.end.rising)
    c.in_ok-ends.base.seats.stopped
    (λ stopped. elim c.in_ok-ends.ensures.base [
      | inl same ↦ absurd (false≢true (
          sym (ap (λ (s : LaneSeatsOf). s.stopped) c.requires.seats)
          ∙ sym c.in_ok-jobs.ensures.seats.stopped
          ∙ sym (ap (λ (b : BaseSeat). b.seats.stopped) same) ∙ stopped))
      | inr halted ↦ halted.1
    ]) in (
      map log ends,
      ap (λ (s : LaneSeatsOf). s.logs) back.seats ∙ mapped_twice log ends,
      subst (λ (m : List LaneStop × List Held × List ℕ × _).
          WereRun a gives_up m.0 m.1 m.2 m.3 (map log ends))
          (λ i. (
            sym back.stops i,
            sym back.chroots i,
            sym back.spent i,
            sym (ap (λ (s : LaneSeatsOf). s.stopped) back.seats) i,
          )) run,
    )
