use Rattle.std.proofs.Common.{◌≡◌, Some, sym, ap, subst, ◌∙◌}
use Rattle.std.proofs.lemmas.Option.{same_Some}
use Rattle.std.specs.Prelude.{slice_get}
use Rattle.lane_runner.specs.declared.turns.LaneTurns.{LaneTurns}
use Rattle.farm_executor.specs.Turned.{IsTurned}
use Rattle.farm_executor.proofs.Pairs.{some_at}
use Rattle.farm_executor.proofs.TurnedLaws.{turned_on, unturned}
use Rattle.drive_run.proofs.StageLaws.{closed_no_pick}
use Rattle.drive_run.proofs.turns.DrivenLanesTurner.take_turns.Goals.{in-None, in-Some+then-not-go_round}
use Rattle.drive_run.proofs.turns.DrivenLanesTurner.take_turns.Goals as goal

pub loop-init : goal.loop-init
loop-init g c =
    let home = g.E.LaneArchive.home in
    let about = g.E.LaneArchive.about in
    let lane = g.E.LaneArchive.lane in
    let log = g.E.LaneArchive.log in
    record {
      can = tt;
      finite = tt;
      turned = λ k s t one two.
          subst (λ (x : LaneTurns g.row.E.Denot). IsTurned (home s.end) (about s.end) (lane s.end)
          (log s.end) (home x.end) x.accepted.now x.runner x.chroot (about x.end) (lane x.end)
          (log x.end)) (same_Some s t (sym one ∙ two))
          (unturned (home s.end) (about s.end) (lane s.end) (log s.end) s.accepted.now s.runner
          s.chroot (c.requires.running k s one));
      numbered = c.are_numbered.ensures c.if-not-are_numbered.false;
      staged = λ k t at n v is.
          absurd (closed_no_pick _ _ c.close.ensures t.runner.lane n v is);
    }

pub go_round-requires : goal.go_round-requires
go_round-requires g c = record {
  running = λ k t at.
      let s = some_at c.loop.lanes c.args.lanes.now k t (sym c.loop.auto.lanes) at in
      (c.loop.invariant.turned k s.0 t s.1 at).running;
  numbered = c.loop.invariant.numbered;
  staged = c.loop.invariant.staged;
}

pub loop-preserved : goal.loop-preserved
loop-preserved g c =
    let home = g.E.LaneArchive.home in
    let about = g.E.LaneArchive.about in
    let lane = g.E.LaneArchive.lane in
    let log = g.E.LaneArchive.log in
    record {
      can = tt;
      finite = tt;
      turned = λ k s t one two.
          let m = some_at c.go_round.new.lanes c.loop.lanes k t (sym c.go_round.auto.lanes) two in
          let x = m.0 in
          turned_on (home s.end) (about s.end) (lane s.end) (log s.end) (home x.end)
          x.accepted.now x.runner x.chroot (about x.end) (lane x.end) (log x.end) (home t.end)
          t.accepted.now t.runner t.chroot (about t.end) (lane t.end) (log t.end)
          (c.loop.invariant.turned k s x one m.1) (c.go_round.ensures.turned k x t m.1 two);
      numbered = c.go_round.ensures.numbered;
      staged = c.go_round.ensures.staged;
    }

pub returns : goal.returns
returns g c = record {
  turned = λ k s t one two.
      let home = g.E.LaneArchive.home in
      let about = g.E.LaneArchive.about in
      let lane = g.E.LaneArchive.lane in
      let log = g.E.LaneArchive.log in
      elim c.match-next.branch [
        | in-None w ↦
            c.loop.invariant.turned k s t one
            (ap (λ xs. slice_get xs k) (sym w.lanes-is) ∙ two)
        | in-Some+then-not-go_round w ↦
            let there = ap (λ xs. slice_get xs k) (sym w.lanes-is) ∙ two in
            let m = some_at w.go_round.new.lanes c.loop.lanes k t (sym w.go_round.auto.lanes) there in
            let x = m.0 in
            turned_on (home s.end) (about s.end) (lane s.end) (log s.end) (home x.end)
            x.accepted.now x.runner x.chroot (about x.end) (lane x.end) (log x.end) (home t.end)
            t.accepted.now t.runner t.chroot (about t.end) (lane t.end) (log t.end)
            (c.loop.invariant.turned k s x one m.1) (w.go_round.ensures.turned k x t m.1 there)
      ];
}

pub returns-then-is_empty : goal.returns-then-is_empty
returns-then-is_empty g c =
    let home = g.E.LaneArchive.home in
    let about = g.E.LaneArchive.about in
    let lane = g.E.LaneArchive.lane in
    let log = g.E.LaneArchive.log in
    record {
      turned = λ k s t one two.
          subst (λ (x : LaneTurns g.row.E.Denot). IsTurned (home s.end) (about s.end) (lane s.end)
          (log s.end) (home x.end) x.accepted.now x.runner x.chroot (about x.end) (lane x.end)
          (log x.end)) (same_Some s t (sym one ∙ two))
          (unturned (home s.end) (about s.end) (lane s.end) (log s.end) s.accepted.now s.runner
          s.chroot (c.requires.running k s one));
    }
