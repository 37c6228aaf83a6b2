use Rattle.std.proofs.Common.{refl}
use Rattle.farm_core.proofs.Played.{kept, played-more, played-stopped}
use Rattle.farm_core.proofs.schedule.play.Goals as goal

pub loop-index-init : goal.loop-index-init
loop-index-init c = record { same = refl; rest = refl }

pub loop-index-preserved : goal.loop-index-preserved
loop-index-preserved c =
    played-more c.args.core.now c.args.schedule.now c.loop-index.index c.loop-index.core
    c.step.new.self c.step.result c.loop-index-test.true c.loop-index.invariant
    c.step.ensures.told c.step.ensures.after c.in_default.not-Trapped

pub returns-in-Trapped-clause-ending : goal.returns-in-Trapped-clause-ending
returns-in-Trapped-clause-ending c =
    played-stopped c.args.core.now c.args.schedule.now c.loop-index.index c.loop-index.core
    c.step.new.self c.step.result c.loop-index-test.true c.loop-index.invariant
    c.step.ensures.told c.step.ensures.after c.in-Trapped.trap c.in-Trapped.is c.done.result
    c.done.ensures

pub returns-in-Trapped-clause-same : goal.returns-in-Trapped-clause-same
returns-in-Trapped-clause-same c =
    kept c.args.core.now c.args.schedule.now c.loop-index.index c.loop-index.core
    c.step.new.self c.step.result c.loop-index-test.true c.loop-index.invariant
    c.step.ensures.told c.step.ensures.after
