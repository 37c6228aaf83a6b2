use Rattle.plan_cert.proofs.FactLaws.{none-initial, some-initial}
use Rattle.plan_cert.proofs.facts.is_initial.Goals as goal

pub returns-then-not-hits : goal.returns-then-not-hits
returns-then-not-hits c =
    none-initial c.args.question.claim.universe.now c.args.question.origins.now.archive
    c.args.question.sources.now c.args.question.new.now
    c.args.question.sound c.args.question.origins_are.archive c.hits.result c.hits.ensures.set
    c.if-not-hits.true

pub returns : goal.returns
returns c =
    some-initial c.args.question.claim.universe.now c.args.question.origins.now.archive
    c.args.question.sources.now c.args.question.new.now
    c.args.question.sound c.args.question.origins_are.archive c.hits.result c.hits.ensures.set
    c.if-not-hits.false
    c.within.result c.within.ensures.set
