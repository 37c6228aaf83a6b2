use Rattle.std.proofs.Common.{ap, ◌∙◌}
use Rattle.farm_answers.proofs.RunLaws.{never_started}
use Rattle.farm_answers.specs.FarmAnswers.{stopped_line}
use Rattle.plan_model.specs.Plan.{Lane, lane}
use Rattle.farm_answers.proofs.farm_run.tell_stopped.Goals as goal

pub returns-clause-line : goal.returns-clause-line
returns-clause-line g c = (
  stopped_line c.name.result.now,
  record {
    ends = c.requires.1;
    number = c.args.lane;
    stopped = never_started _ _ _ _ c.requires.2;
    line_is = ap stopped_line (c.name.ensures ∙ ap (λ (of : Lane). of.name)
        (c.lane.ensures ∙ ap (λ p. lane p c.args.lane) c.plan.ensures.lanes));
  },
  c.tell_stop.ensures.line,
)
