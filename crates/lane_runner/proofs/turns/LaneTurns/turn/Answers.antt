use Rattle.std.proofs.lemmas.Option.{same_Some}
use Rattle.plan_verifier.specs.Accepted.{known_rows}
use Rattle.lane_runner.proofs.Ends.{ends}
use Rattle.lane_runner.proofs.turns.LaneTurns.turn.Goals as goal

pub returns-then-has_ended-clause-ended : goal.returns-then-has_ended-clause-ended
returns-then-has_ended-clause-ended g c = λ none.
    let t = c.args.self.now in
    let a = t.accepted.now in
    ends a.universe a.plan (known_rows a) t.runner t.chroot _ c.requires.running.on
    (c.has_ended.ensures.ends c.if-has_ended.true)

pub returns-clause-last : goal.returns-clause-last
returns-clause-last g c = λ h is. c.turn.ensures.last h (same_Some _ _ is)

pub returns-clause-picked : goal.returns-clause-picked
returns-clause-picked g c = λ v is.
    let p = c.turn.ensures.picked v (same_Some _ _ is) in (p.0, p.2)

pub returns-clause-branched : goal.returns-clause-branched
returns-clause-branched g c = λ holds is. c.turn.ensures.branched holds (same_Some _ _ is)
