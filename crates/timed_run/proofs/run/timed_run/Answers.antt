use Rattle.std.proofs.Common.{rules, ◌≡◌, replicate}
use Rattle.timed_run.specs.Beginning.{beginning, from_start}
use Rattle.timed_run.specs.Timed.{IsTimedRun, IsOnlyTimedRun}
use Rattle.timed_run.specs.declared.run.TimedRun.{TimedRun}
use Rattle.timed_run.proofs.Begun.{answered, start-run}
use Rattle.timed_run.proofs.Unique.{only-one}
use Rattle.timed_run.proofs.run.timed_run.Goals as goal

pub returns-clause-run : goal.returns-clause-run
returns-clause-run g c =
    let u = g.F.Farm.universe c.args.farm.now in
    let p = g.F.Farm.plan c.args.farm.now in
    let all : c.deref.result.now ≡ replicate c.args.lanes 0 = search rules in
    answered
    (λ (run : TimedRun). IsTimedRun u p
    (beginning (g.F.Farm.state c.args.farm.now) c.deref.result.now) run.events.items run.end)
    (λ (run : TimedRun). IsTimedRun u p (from_start u p) run.events.items run.end)
    (λ run r. start-run u p (g.F.Farm.state c.args.farm.now) c.args.lanes c.deref.result.now
    run.events.items run.end c.requires.begins all r) c.timed_run_from.result
    c.timed_run_from.ensures.run

pub returns-clause-unique : goal.returns-clause-unique
returns-clause-unique g c =
    let u = g.F.Farm.universe c.args.farm.now in
    let p = g.F.Farm.plan c.args.farm.now in
    answered (λ (run : TimedRun). IsTimedRun u p (from_start u p) run.events.items run.end)
    (λ (run : TimedRun). IsOnlyTimedRun u p (from_start u p) run.events.items run.end)
    (λ run r. only-one u p (from_start u p) run.events.items run.end r) c.timed_run_from.result
    (returns-clause-run g c)
