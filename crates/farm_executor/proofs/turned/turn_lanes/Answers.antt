use Rattle.std.proofs.Common.{◌≡◌, ◌<◌, ◌++◌, ℕ, Some, true, List, drop, length, map, take, refl, sym, ap, subst, ◌∙◌, arith}
use Rattle.std.specs.Prelude.{slice_get}
use Rattle.std.proofs.lemmas.Bool.{false≢true}
use Rattle.std.proofs.lemmas.List.{take_at}
use Rattle.atomic_table.specs.Seated.{TableId}
use Rattle.chroot_state.specs.Held.{Held}
use Rattle.archive_laws.specs.Records.{Record}
use Rattle.lane_runner.specs.declared.run.LaneStop.{LaneStop}
use Rattle.lane_runner.specs.declared.turns.LaneTurns.{LaneTurns}
use Rattle.plan_verifier.specs.Accepted.{AcceptedPlan}
use Rattle.word_archive.specs.Seats.{LaneSeatOf, LaneSeatsOf}
use Rattle.farm_executor.specs.declared.lanes.LaneEnd.{LaneEnd}
use Rattle.farm_executor.specs.declared.link.Link.{Link}
use Rattle.farm_executor.specs.Played.{HasRun, WereRun}
use Rattle.farm_executor.specs.Seated.{IsSeatOf}
use Rattle.farm_executor.proofs.GivenBack.{mapped_twice}
use Rattle.farm_executor.proofs.Pairs.{some_at}
use Rattle.farm_executor.proofs.TurnedLaws.{stopped_by, turned_run, turned_seat}
use Rattle.farm_executor.proofs.WereRun.{were_run}
use Rattle.farm_executor.proofs.turned.turn_lanes.Goals as goal

pub take_turns-told-requires : goal.take_turns-told-requires
take_turns-told-requires g c = record {
  running = λ k t at. c.in_ok-lanes.ensures.running k t
      (ap (λ xs. slice_get xs k) (sym c.deref_mut.ensures.value) ∙ at);
}

pub cause_of-requires-clause-running : goal.cause_of-requires-clause-running
cause_of-requires-clause-running g c = λ k t at.
    let before = c.deref_mut.result.now in
    let after = c.take_turns-told.new.lanes in
    let now : c.deref.result.now ≡ after =
    c.deref.ensures.value
    ∙ take_at after _ _ (c.take_turns-told.auto.lanes ∙ c.deref_mut.ensures.len) in
    let there : slice_get after k ≡ Some t = ap (λ xs. slice_get xs k) (sym now) ∙ at in
    let s = some_at after before k t (sym c.take_turns-told.auto.lanes) there in
    (c.take_turns-told.ensures.turned k s.0 t s.1 there).running

pub stops_of-ends-requires-clause-running : goal.stops_of-ends-requires-clause-running
stops_of-ends-requires-clause-running g c = λ k t at.
    let before = c.deref_mut.result.now in
    let after = c.take_turns-told.new.lanes in
    let now : c.deref-in-Some.result.now ≡ after =
    c.deref-in-Some.ensures.value
    ∙ take_at after _ _ (c.take_turns-told.auto.lanes ∙ c.deref_mut.ensures.len) in
    let there : slice_get after k ≡ Some t = ap (λ xs. slice_get xs k) (sym now) ∙ at in
    let s = some_at after before k t (sym c.take_turns-told.auto.lanes) there in
    (c.take_turns-told.ensures.turned k s.0 t s.1 there).running

pub returns-in-Some-clause-stopped : goal.returns-in-Some-clause-stopped
returns-in-Some-clause-stopped g c =
    let after = c.take_turns-told.new.lanes in
    let now : c.deref.result.now ≡ after =
    c.deref.ensures.value
    ∙ take_at after _ _ (c.take_turns-told.auto.lanes ∙ c.deref_mut.ensures.len) in
    let then : c.deref-in-Some.result.now ≡ after =
    c.deref-in-Some.ensures.value
    ∙ take_at after _ _ (c.take_turns-told.auto.lanes ∙ c.deref_mut.ensures.len) in
    let stops = c.stops_of-ends.ensures.long ∙ ap length then in
    stopped_by c.args.accepted.now c.stops_of-ends.result.items c.in-Some.lane
    (stops ∙ c.take_turns-told.auto.lanes ∙ ap length c.deref_mut.ensures.value
    ∙ c.in_ok-lanes.ensures.long)
    (omega (arith, stops, ap length now, c.in-Some.ensures.some))
    c.stops_of-ends.ensures.each

pub give_back-requires-clause-seats : goal.give_back-requires-clause-seats
give_back-requires-clause-seats g c = λ k e is.
    let before = c.deref_mut.result.now in
    let after = c.take_turns-told.new.lanes in
    let held = take_at after (drop (length after) c.in_ok-lanes.lanes.items) c.in_ok-lanes.lanes.len
    (c.take_turns-told.auto.lanes ∙ c.deref_mut.ensures.len) in
    let t = some_at c.ends_of.result.items after k e
    (sym (c.ends_of.ensures.long ∙ ap length held)) is in
    let s = some_at after before k t.0 (sym c.take_turns-told.auto.lanes) t.1 in
    let turned = c.take_turns-told.ensures.turned k s.0 t.0 s.1 t.1 in
    let seat = c.in_ok-lanes.ensures.each k s.0
    (ap (λ xs. slice_get xs k) (sym c.deref_mut.ensures.value) ∙ s.1) in
    let here = turned_seat c.args.archive.now.table.shared.table_id c.args.accepted.now k
    s.0.end.seat t.0.accepted.now t.0.runner t.0.chroot t.0.end.seat seat turned in
    let ended = c.ends_of.ensures.each k t.0 e (ap (λ xs. slice_get xs k) held ∙ t.1) is in
    let table = c.in_ok-lanes.ensures.seats.table
    ∙ ap (λ (q : LaneSeatsOf). q.table) c.requires.seats in
    let about = c.in_ok-lanes.ensures.seats.about
    ∙ ap (λ (q : LaneSeatsOf). q.about) c.requires.seats ∙ c.requires.about in
    subst (λ (m : TableId × AcceptedPlan). IsSeatOf m.0 m.1 k e.end.seat)
    (λ i. (sym table i, sym about i))
    (subst (λ (l : Link). IsSeatOf c.args.archive.now.table.shared.table_id c.args.accepted.now k
    l.seat) (sym ended.4) here)

pub returns-clause-were : goal.returns-clause-were
returns-clause-were g c =
    let t = c.args.archive.now.table.shared.table_id in
    let a = c.args.accepted.now in
    let before = c.deref_mut.result.now in
    let after = c.take_turns-told.new.lanes in
    let held = take_at after (drop (length after) c.in_ok-lanes.lanes.items) c.in_ok-lanes.lanes.len
    (c.take_turns-told.auto.lanes ∙ c.deref_mut.ensures.len) in
    let now : c.deref.result.now ≡ after = c.deref.ensures.value ∙ held in
    let ends = c.ends_of.result.items in
    let back = c.give_back.ensures in
    let log : LaneEnd Link → Record = λ e. e.end.seat.log in
    let run = were_run (λ (e : LaneEnd Link). e.stop) (λ e. e.chroot) (λ e. e.spent) log ends a
    (Unit {0})
    (c.ends_of.ensures.long ∙ ap length held ∙ c.take_turns-told.auto.lanes
    ∙ ap length c.deref_mut.ensures.value ∙ c.in_ok-lanes.ensures.long)
    (λ k e is.
    let l = some_at ends after k e (sym (c.ends_of.ensures.long ∙ ap length held)) is in
    let s = some_at after before k l.0 (sym c.take_turns-told.auto.lanes) l.1 in
    let turned = c.take_turns-told.ensures.turned k s.0 l.0 s.1 l.1 in
    let seat = c.in_ok-lanes.ensures.each k s.0
    (ap (λ xs. slice_get xs k) (sym c.deref_mut.ensures.value) ∙ s.1) in
    let ended = c.ends_of.ensures.each k l.0 e (ap (λ xs. slice_get xs k) held ∙ l.1) is in
    let done = c.cause_of.ensures.none c.in_default.is k l.0
    (ap (λ xs. slice_get xs k) now ∙ l.1) in
    subst (λ (m : Held × ℕ × Link). HasRun a (Unit {0}) k e.stop m.0 m.1 m.2.seat.log)
    (λ i. (sym ended.3 i, sym ended.2 i, sym ended.4 i))
    (turned_run t a (Unit {0}) k s.0.end.seat l.0.accepted.now l.0.runner l.0.chroot l.0.end.seat
    e.stop seat turned done ended.0 ended.1 l.0.end.rising))
    c.in_ok-lanes.seats.stopped
    (λ stopped. absurd (false≢true (
    sym (ap (λ (s : LaneSeatsOf). s.stopped) c.requires.seats)
    ∙ sym c.in_ok-lanes.ensures.seats.stopped ∙ stopped))) in (
      map log ends,
      ap (λ (s : LaneSeatsOf). s.logs) back.seats ∙ mapped_twice log ends,
      subst (λ (m : List LaneStop × List Held × List ℕ × _).
          WereRun a (Unit {0}) m.0 m.1 m.2 m.3 (map log ends))
          (λ i. (
            sym back.stops i,
            sym back.chroots i,
            sym back.spent i,
            sym (ap (λ (s : LaneSeatsOf). s.stopped) back.seats) i,
          )) run,
    )
