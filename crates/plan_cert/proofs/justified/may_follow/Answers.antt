use Rattle.plan_cert.specs.PlaceRows.{place_rows_of}
use Rattle.plan_cert.proofs.JustifiedLaws.{follow-none, follow-facts}
use Rattle.plan_cert.proofs.justified.may_follow.Goals as goal

pub returns-then-not-within : goal.returns-then-not-within
returns-then-not-within c = λ test is.
    follow-none c.args.at.claim.universe.now c.args.at.claim.plan.now.lanes
    (place_rows_of c.args.at.claim.known.now)
    c.requires.sound c.args.at.number c.args.at.place c.args.new.now c.args.at.there.now
    c.args.at.there_is
    test c.within.result c.within.ensures.set c.if-not-within.true

pub returns : goal.returns
returns c = λ test is.
    follow-facts c.args.at.claim.universe.now c.args.at.claim.plan.now.lanes
    (place_rows_of c.args.at.claim.known.now)
    c.requires.sound c.args.at.number c.args.at.place c.args.new.now c.args.at.there.now
    c.args.at.there_is
    test c.args.asked c.and_into.new.self is c.and_into.ensures.set c.within.result
    c.within.ensures.set c.if-not-within.false c.in_ok-yes.yes c.in_ok-yes.ensures
