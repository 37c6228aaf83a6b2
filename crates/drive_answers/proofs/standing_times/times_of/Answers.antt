use Rattle.drive_answers.proofs.StatusLaws.{core_plan, core_state}
use Rattle.drive_answers.proofs.standing_times.times_of.Goals as goal

pub timed_run_of-requires-clause-universe : goal.timed_run_of-requires-clause-universe
timed_run_of-requires-clause-universe c =
    (core_plan c.args.accepted.now c.args.core c.requires.reached).0

pub timed_run_of-requires-clause-plan : goal.timed_run_of-requires-clause-plan
timed_run_of-requires-clause-plan c =
    (core_plan c.args.accepted.now c.args.core c.requires.reached).1

pub timed_run_of-requires-clause-reached : goal.timed_run_of-requires-clause-reached
timed_run_of-requires-clause-reached c =
    core_state c.args.accepted.now c.args.core c.requires.reached
