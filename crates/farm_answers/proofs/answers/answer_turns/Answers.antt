use Rattle.std.proofs.Common.{ap, length}
use Rattle.std.specs.Option.{is_none}
use Rattle.farm_report.specs.StateText.{step_text}
use Rattle.farm_answers.specs.Answers.{IsJust, ShowsRun, status_of}
use Rattle.farm_answers.proofs.AnswerLaws.{answered-by}
use Rattle.farm_answers.proofs.answers.answer_turns.Goals as goal

pub returns : goal.returns
returns g c =
    let core = c.in_ok-outcome.outcome.core in
    let trap = c.in_ok-outcome.outcome.trap in
    answered-by (IsJust (step_text core trap (length c.args.schedule.now))
    (status_of (is_none trap)))
    (ShowsRun c.args.planned.now.universe c.args.planned.now.plan.lanes c.args.schedule.now) _ _ _
    (λ text status is. record {
      farm = core;
      stop = trap;
      about = (c.in_ok-outcome.ensures.universe, ap (λ p. p.lanes) c.in_ok-outcome.ensures.plan);
      ending = c.in_ok-outcome.ensures.ending;
      text_is = is.0;
      status_is = is.1;
    })
    c.write_turns.ensures
