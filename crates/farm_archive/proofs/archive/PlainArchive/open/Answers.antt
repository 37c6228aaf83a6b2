use Rattle.std.proofs.Common.{arith}
use Rattle.farm_archive.proofs.Outputs.{outputs-counted}
use Rattle.farm_archive.proofs.Published.{initial-more, archive-initial}
use Rattle.farm_archive.proofs.archive.PlainArchive.open.Goals as goal

pub loop-name-preserved : goal.loop-name-preserved
loop-name-preserved c =
    initial-more c.args.universe.now c.names-count.ensures.kept c.loop-name.words.items
    c.push.new.self.items c.initial.result c.loop-name.name c.loop-name.invariant
    c.initial.ensures
    (omega (arith, c.loop-name-test.true, c.names-count.ensures.number))
    c.in_ok-push.ensures.items

pub returns-clause-initial : goal.returns-clause-initial
returns-clause-initial c =
    archive-initial c.args.universe.now c.names-count.ensures.kept _ c.loop-name.name
    c.loop-name.invariant
    (omega (arith, c.loop-name-test.false, c.names-count.ensures.number))
    c.in_ok-history.ensures.items

pub returns-clause-outputs : goal.returns-clause-outputs
returns-clause-outputs c =
    let counted = outputs-counted c.args.universe.now c.args.plan.now.lanes
    c.requires.plan.branched in
    omega (arith, counted, c.in_ok-history.ensures.exact, c.count.ensures, c.requires.counted)
