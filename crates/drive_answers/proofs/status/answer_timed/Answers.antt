use Rattle.std.proofs.Common.{ap, length, ◌∙◌}
use Rattle.drive_answers.specs.Statuses.{counted}
use Rattle.drive_answers.proofs.StatusLaws.{core_plan}
use Rattle.drive_answers.proofs.status.answer_timed.Goals as goal

pub times_of-requires-clause-reached : goal.times_of-requires-clause-reached
times_of-requires-clause-reached g c =
    let a = c.args.accepted.now in
    let is = c.requires.reached in
    (is.0, c.of.ensures a.universe (counted a.universe a.plan is.0) is.1)

pub times_of-requires-clause-lanes : goal.times_of-requires-clause-lanes
times_of-requires-clause-lanes g c =
    ap length c.deref.ensures.value
    ∙ c.in_ok-free.ensures
    ∙ ap length (core_plan c.args.accepted.now c.args.run.core c.requires.reached).1
