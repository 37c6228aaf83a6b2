use Rattle.std.proofs.Common.{◌∙◌, ap, length, refl, subst, sym}
use Rattle.std.proofs.lemmas.Option.{slice_get_read}
use Rattle.plan_model.specs.Plan.{Lane}
use Rattle.farm_report.proofs.RunLaws.{end_is}
use Rattle.report_sink.specs.Sinks.{IsWritten}
use Rattle.farm_report.proofs.finished.write_lane_end.Goals as goal

pub write_lane_lines-requires : goal.write_lane_lines-requires
write_lane_lines-requires g c =
    c.requires.used c.args.number c.index-chroots-number.result
    (slice_get_read c.args.chroots.now _ c.args.number _ (sym c.requires.chroots) c.requires.number
    c.index-chroots-number.is)

pub returns-clause-written : goal.returns-clause-written
returns-clause-written g c =
    subst (IsWritten (g.S.Sink.state c.args.out.now) (g.S.Sink.state c.write_lane_lines.new.out))
    (end_is c.args.universe.now c.args.plan.now.lanes c.args.chroots.now c.args.spent.now
    c.args.number _ _ _ c.index-chroots-number.result
    (c.name.ensures ∙ ap (λ (l : Lane). l.name) c.lane-lane.ensures)
    (ap length c.instructions.ensures ∙ ap (λ (l : Lane). length l.instructions)
    c.lane-lane.ensures)
    refl
    (slice_get_read c.args.chroots.now _ c.args.number _ (sym c.requires.chroots) c.requires.number
    c.index-chroots-number.is))
    c.write_lane_lines.ensures.written
