use Rattle.std.proofs.Common.{◌+◌, subst}
use Rattle.plan_cert.specs.Facts.{IsFirstSource}
use Rattle.plan_cert.specs.Stated.{in_row}
use Rattle.plan_cert.proofs.FactLaws.{first-decides, with-known}
use Rattle.plan_cert.proofs.facts.is_known_with.Goals as goal

pub returns : goal.returns
returns c =
    let u = c.args.question.claim.universe.now in
    let r = c.args.recipe in
    let n = c.in-Some.first in
    λ known is all.
    first-decides u c.args.question.sources.now c.args.question.new.now c.args.before.now r known is
    all n
    (subst (λ vs. IsFirstSource (in_row c.args.question.sources.now) vs n)
    c.outputs-outputs.ensures.outputs
    c.in-Some.ensures.found) c.in_ok-row.row (c.in_ok-row.ensures.added known is)
    (with-known u r (n + 1) known all (c.args.question.sound.outputs_known r)) c.within-2.result
    c.within-2.ensures.set
