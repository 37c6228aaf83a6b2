use Rattle.std.proofs.Common.{sym, subst}
use Rattle.plan_reader.specs.CountedPlan.{CountedPlan}
use Rattle.farm_report.specs.StateText.{end_text, state_text}
use Rattle.report_sink.specs.Sinks.{IsWritten}
use Rattle.report_sink.proofs.WriteLaws.{written_twice, cut_short}
use Rattle.farm_report.proofs.step.write_step.Goals as goal

pub returns-in_err-write_end-clause-written : goal.returns-in_err-write_end-clause-written
returns-in_err-write_end-clause-written g c =
    let o = c.args.outcome.now in
    cut_short _ _ (end_text o.core.plan.lanes o.trap c.args.schedule_len)
    (state_text o.core.universe o.core.plan.lanes o.core.state)
    (subst (λ (p : CountedPlan). IsWritten (g.S.Sink.state c.args.out.now)
    (g.S.Sink.state c.write_end.new.out) (end_text p.lanes o.trap c.args.schedule_len))
    c.plan.ensures c.write_end.ensures.written)
    (sym c.in_err-write_end.ensures.told)

pub returns-clause-written : goal.returns-clause-written
returns-clause-written g c =
    let o = c.args.outcome.now in
    written_twice _ _ _ (end_text o.core.plan.lanes o.trap c.args.schedule_len)
    (state_text o.core.universe o.core.plan.lanes o.core.state)
    (subst (λ (p : CountedPlan). IsWritten (g.S.Sink.state c.args.out.now)
    (g.S.Sink.state c.write_end.new.out) (end_text p.lanes o.trap c.args.schedule_len))
    c.plan.ensures c.write_end.ensures.written)
    c.write_state.ensures.written
