use Rattle.std.proofs.Common.{ap, ◌∙◌}
use Rattle.drive_answers.specs.DriveLines.{stopped_line}
use Rattle.plan_model.specs.Plan.{Lane, lane}
use Rattle.drive_answers.proofs.ran.tell_stopped.Goals as goal

pub returns-clause-line : goal.returns-clause-line
returns-clause-line g c = (
  stopped_line c.args.code c.name.result.now,
  record {
    ends = c.requires.0;
    code = c.args.code;
    number = c.args.lane;
    stopped = c.requires.1;
    line_is = ap (stopped_line c.args.code) (c.name.ensures ∙ ap (λ (of : Lane). of.name)
        (c.lane.ensures ∙ ap (λ p. lane p c.args.lane) c.plan.ensures.lanes));
  },
  c.tell_stop.ensures.line,
)
