use Rattle.std.proofs.Common.{◌≡◌, ◌<◌, Some, length, inl, inr, refl, sym, ap, subst, ◌∙◌, arith}
use Rattle.std.proofs.lemmas.Bool.{cases_eq}
use Rattle.std.proofs.lemmas.Option.{same_Some, slice_get-get_or}
use Rattle.std.specs.Prelude.{slice_get, slice_index_or, slice_set}
use Rattle.lane_runner.specs.declared.turns.LaneTurns.{LaneTurns}
use Rattle.farm_executor.specs.Turned.{IsTurned}
use Rattle.farm_executor.proofs.Pairs.{some_at}
use Rattle.farm_executor.proofs.TurnedLaws.{turned_on, unturned}
use Rattle.drive_run.specs.Asking.{IsStaged}
use Rattle.drive_run.specs.LaneStages.{stage_at}
use Rattle.drive_run.proofs.TurnLaws.{same_lane}
use Rattle.drive_run.proofs.Places.{at_set_here, at_set_other}
use Rattle.drive_run.proofs.lanes.DrivenLanes.round.Goals as goal

pub loop-number-init : goal.loop-number-init
loop-number-init g c =
    let home = g.E.LaneArchive.home in
    let about = g.E.LaneArchive.about in
    let lane = g.E.LaneArchive.lane in
    let log = g.E.LaneArchive.log in
    record {
      turned = λ k s t one two.
          subst (λ (x : LaneTurns g.row.E.Denot). IsTurned (home s.end) (about s.end) (lane s.end)
          (log s.end) (home x.end) x.accepted.now x.runner x.chroot (about x.end) (lane x.end)
          (log x.end)) (same_Some s t (sym one ∙ two))
          (unturned (home s.end) (about s.end) (lane s.end) (log s.end) s.accepted.now s.runner
          s.chroot (c.requires.running k s one));
      numbered = c.requires.numbered;
      staged = c.requires.staged;
      known = refl;
    }

pub visit-requires : goal.visit-requires
visit-requires g c =
    let lanes = c.loop-number.lanes in
    let i = c.loop-number.number in
    let x = slice_index_or lanes i c.index-lanes-number.result in
    let at : slice_get lanes i ≡ Some x =
    slice_get-get_or lanes i c.index-lanes-number.result
    (omega (arith, c.loop-number-test.true, c.loop-number.auto.lanes)) in
    let s = some_at lanes c.args.lanes.now i x (sym c.loop-number.auto.lanes) at in
    record {
      running = (c.loop-number.invariant.turned i s.0 x s.1 at).running;
      staged = c.loop-number.invariant.staged i x at;
    }

pub loop-number-preserved : goal.loop-number-preserved
loop-number-preserved g c =
    let home = g.E.LaneArchive.home in
    let about = g.E.LaneArchive.about in
    let lane = g.E.LaneArchive.lane in
    let log = g.E.LaneArchive.log in
    let lanes = c.loop-number.lanes in
    let i = c.loop-number.number in
    let x = slice_index_or lanes i c.index-lanes-number.result in
    let y = c.visit.new.lane in
    let stages = c.visit.new.self.stages in
    let at : slice_get lanes i ≡ Some x =
    slice_get-get_or lanes i c.index-lanes-number.result
    (omega (arith, c.loop-number-test.true, c.loop-number.auto.lanes)) in
    let before = some_at lanes c.args.lanes.now i x (sym c.loop-number.auto.lanes) at in
    let running = (c.loop-number.invariant.turned i before.0 x before.1 at).running in
    let stays : y.runner.lane ≡ x.runner.lane =
    same_lane (home x.end) (about x.end) (lane x.end) (home y.end) (about y.end) (lane y.end)
    x.accepted.now y.accepted.now x.runner y.runner x.chroot y.chroot (log x.end) (log y.end)
    c.visit.ensures.turned.same running c.visit.ensures.turned.running in
    let x_is : x.runner.lane ≡ i = c.loop-number.invariant.numbered i x at in
    record {
      turned = λ k s t one two. elim (cases_eq k i) [
        | inl here ↦
            let at' : slice_get lanes k ≡ Some x = ap (slice_get lanes) here ∙ at in
            subst (λ (z : LaneTurns g.row.E.Denot). IsTurned (home s.end) (about s.end)
            (lane s.end) (log s.end) (home z.end) z.accepted.now z.runner z.chroot (about z.end)
            (lane z.end) (log z.end))
            (at_set_here lanes i y t
            (subst (λ j. slice_get (slice_set lanes i y) j ≡ Some t) here two))
            (turned_on (home s.end) (about s.end) (lane s.end) (log s.end) (home x.end)
            x.accepted.now x.runner x.chroot (about x.end) (lane x.end) (log x.end) (home y.end)
            y.accepted.now y.runner y.chroot (about y.end) (lane y.end) (log y.end)
            (c.loop-number.invariant.turned k s x one at') c.visit.ensures.turned)
        | inr other ↦
            c.loop-number.invariant.turned k s t one (sym (at_set_other lanes i k y other) ∙ two)
      ];
      numbered = λ k t two. elim (cases_eq k i) [
        | inl here ↦
            let is : y ≡ t =
            at_set_here lanes i y t
            (subst (λ j. slice_get (slice_set lanes i y) j ≡ Some t) here two) in
            ap (λ (z : LaneTurns g.row.E.Denot). z.runner.lane) (sym is)
            ∙ (stays ∙ (x_is ∙ sym here))
        | inr other ↦
            c.loop-number.invariant.numbered k t (sym (at_set_other lanes i k y other) ∙ two)
      ];
      staged = λ k t two. elim (cases_eq k i) [
        | inl here ↦
            subst (λ (z : LaneTurns g.row.E.Denot). IsStaged z.accepted.now z.runner.lane z.chroot
            (log z.end) (stage_at stages z.runner.lane))
            (at_set_here lanes i y t
            (subst (λ j. slice_get (slice_set lanes i y) j ≡ Some t) here two))
            c.visit.ensures.staged
        | inr other ↦
            let there = sym (at_set_other lanes i k y other) ∙ two in
            let t_is : t.runner.lane ≡ k = c.loop-number.invariant.numbered k t there in
            subst (λ stage. IsStaged t.accepted.now t.runner.lane t.chroot (log t.end) stage)
            (sym (c.visit.ensures.others t.runner.lane
            (λ e. other (sym t_is ∙ (e ∙ x_is)))))
            (c.loop-number.invariant.staged k t there)
      ];
      known = c.visit.ensures.known ∙ c.loop-number.invariant.known;
    }
