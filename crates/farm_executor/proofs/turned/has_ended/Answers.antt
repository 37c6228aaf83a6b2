use Rattle.plan_verifier.specs.Accepted.{known_rows}
use Rattle.lane_runner.proofs.Ends.{ends}
use Rattle.farm_executor.proofs.turned.has_ended.Goals as goal

pub returns : goal.returns
returns g c = λ is.
    let t = c.args.lane.now in
    let a = t.accepted.now in
    ends a.universe a.plan (known_rows a) t.runner t.chroot _ c.requires.running.on
    (c.has_ended.ensures.ends is)
