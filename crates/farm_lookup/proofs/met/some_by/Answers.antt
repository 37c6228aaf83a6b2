use Rattle.std.proofs.Common.{subst}
use Rattle.farm_lookup.specs.Candidates.{HasAll}
use Rattle.farm_lookup.proofs.MetLaws.{has-told}
use Rattle.farm_lookup.proofs.met.some_by.Goals as goal

pub returns : goal.returns
returns c =
    has-told c.args.universe.now c.args.atom.now c.named.result.now c.some_has.result
    (subst (λ k. HasAll k c.args.atom.now.name c.named.result.now) c.requires
    (subst (λ text. HasAll c.args.candidates.now text c.named.result.now) c.name.ensures
    c.named.ensures))
    c.some_has.ensures.found c.some_has.ensures.none
