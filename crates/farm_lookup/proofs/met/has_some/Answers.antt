use Rattle.std.proofs.Common.{sym, ◌∙◌}
use Rattle.farm_lookup.proofs.MetLaws.{has-by}
use Rattle.farm_lookup.proofs.met.has_some.Goals as goal

pub returns-clause-found : goal.returns-clause-found
returns-clause-found c = λ yes.
    has-by c.args.universe.now c.args.atom.now c.args.name (sym c.some_satisfies.ensures ∙ yes)
    c.requires

pub returns-clause-none : goal.returns-clause-none
returns-clause-none c = λ no. sym c.some_satisfies.ensures ∙ no
