use Rattle.std.proofs.Common.{ap, ◌∙◌}
use Rattle.std.specs.List.{list_any}
use Rattle.deb_relation.specs.Satisfaction.{package_satisfies}
use Rattle.farm_model.specs.Packages.{satisfies}
use Rattle.farm_universe.proofs.relations.satisfies_any.Goals as goal

pub returns : goal.returns
unfolding satisfies
returns c =
    c.meets_any.ensures
    ∙ ap (λ f. list_any (λ e. list_any (package_satisfies f) e) c.args.entries.now) c.facts.ensures
