use Rattle.std.proofs.Common.{◌≤◌, ◌*◌, length, sym, subst}
use Rattle.farm_universe.specs.declared.limits.TheConstants.{MOST_NAMES, MOST_VARIANTS}
use Rattle.farm_universe.proofs.OutputLaws.{few_outputs}
use Rattle.farm_universe.proofs.universe.Universe.outputs.Goals as goal

pub returns-clause-few : goal.returns-clause-few
returns-clause-few c =
    subst (λ xs. length xs ≤ MOST_NAMES * MOST_VARIANTS) (sym c.given_by.ensures)
    (few_outputs c.args.self.now c.names-names.ensures.kept c.args.recipe)
