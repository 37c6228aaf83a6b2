use Rattle.std.proofs.Common.{arith, subst, sym, ◌+◌}
use Rattle.std.proofs.lemmas.List.{get_or_default}
use Rattle.timed_run.proofs.Ends.{GreatestTo, greatest-more, last-free}
use Rattle.timed_run.proofs.run.last_free.Goals as goal

pub loop-time-preserved : goal.loop-time-preserved
loop-time-preserved c =
    subst (GreatestTo (λ time. time) 0 c.args.free.now (c.loop-time.time-index + 1))
    (sym c.max-last.ensures)
    (greatest-more (λ time. time) 0 c.args.free.now c.loop-time.time-index c.loop-time.last _
    c.loop-time.invariant c.loop-time-test.true
    (get_or_default c.args.free.now c.loop-time.time-index _ _ c.loop-time-test.true))

pub returns : goal.returns
returns c =
    last-free c.args.free.now c.loop-time.time-index c.loop-time.last c.loop-time.invariant
    (omega (arith, c.loop-time-test.false))
