use Rattle.std.proofs.Common.{◌≡◌, sym, ap, ◌∙◌, subst}
use Rattle.farm_core.specs.Farm.{chroot_in}
use Rattle.farm_model.specs.Common.{used, Universe}
use Rattle.plan_reader.specs.CountedPlan.{CountedPlan}
use Rattle.plan_model.specs.Plan.{lane}
use Rattle.farm_report.proofs.StateLaws.{lane_is}
use Rattle.report_sink.specs.Sinks.{IsWritten}
use Rattle.farm_report.proofs.state.write_lane_state.Goals as goal

pub write_lane_lines-requires : goal.write_lane_lines-requires
write_lane_lines-requires g c =
    subst (λ (u : Universe). c.chroot-chroot.result.now.used
    ≡ used u c.chroot-chroot.result.now.slots)
    (sym c.universe.ensures) c.chroot-chroot.ensures.held.used

pub returns-clause-written : goal.returns-clause-written
returns-clause-written g c =
    let f = c.args.core.now in
    let n = c.args.number in
    subst (IsWritten (g.S.Sink.state c.args.out.now) (g.S.Sink.state c.write_lane_lines.new.out))
    (lane_is _ _ _ _ _ _ _ _ _ (chroot_in f n) c.universe.ensures
    (c.lane_name-name.ensures ∙ ap (λ (p : CountedPlan). (lane p.lanes n).name) c.plan.ensures)
    (c.from-done.ensures ∙ c.done.ensures) c.spent-spent.ensures c.chroot-chroot.ensures.chroot)
    c.write_lane_lines.ensures.written
