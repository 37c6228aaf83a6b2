use Rattle.std.proofs.Common.{length, sym, ap, subst}
use Rattle.std.specs.List.{flat_map, range_with_len}
use Rattle.farm_archive.specs.Kept.{numbered}
use Rattle.plan_reader.specs.CountedPlan.{CountedPlan}
use Rattle.plan_model.specs.Common.{lane, lane_state}
use Rattle.report_sink.specs.Sinks.{IsWritten}
use Rattle.report_sink.proofs.WriteLaws.{written_twice, cut_short}
use Rattle.farm_report.specs.StateText.{published_text, lane_text}
use Rattle.farm_report.proofs.StateLaws.{publications_are}
use Rattle.farm_report.proofs.state.write_state.Goals as goal

pub returns-in_err-write_publications-clause-written :
    goal.returns-in_err-write_publications-clause-written
returns-in_err-write_publications-clause-written g c =
    let f = c.args.core.now in
    cut_short _ _ (flat_map (published_text f.universe f.plan.lanes) (numbered 0 f.state.published))
    (flat_map (λ l. lane_text f.universe (lane f.plan.lanes l) (lane_state f.state l))
    (range_with_len 0 (length f.plan.lanes)))
    (subst (IsWritten (g.S.Sink.state c.args.out.now) (g.S.Sink.state c.write_publications.new.out))
    (publications_are _ _ _ _ _ _ c.universe.ensures
    (ap (λ (p : CountedPlan). p.lanes) c.plan.ensures)
    c.history.ensures) c.write_publications.ensures.written)
    (sym c.in_err-write_publications.ensures.told)

pub returns-clause-written : goal.returns-clause-written
returns-clause-written g c =
    let f = c.args.core.now in
    written_twice _ _ _
    (flat_map (published_text f.universe f.plan.lanes) (numbered 0 f.state.published))
    (flat_map (λ l. lane_text f.universe (lane f.plan.lanes l) (lane_state f.state l))
    (range_with_len 0 (length f.plan.lanes)))
    (subst (IsWritten (g.S.Sink.state c.args.out.now) (g.S.Sink.state c.write_publications.new.out))
    (publications_are _ _ _ _ _ _ c.universe.ensures
    (ap (λ (p : CountedPlan). p.lanes) c.plan.ensures)
    c.history.ensures) c.write_publications.ensures.written)
    c.write_lanes.ensures.written
