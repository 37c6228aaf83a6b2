use Rattle.std.proofs.Common.{ap, ◌∙◌}
use Rattle.std.specs.List.{list_any}
use Rattle.deb_relation.specs.Satisfaction.{package_satisfies}
use Rattle.farm_model.specs.Packages.{satisfies}
use Rattle.farm_universe.proofs.relations.satisfies_entry.Goals as goal

pub returns : goal.returns
unfolding satisfies
returns c =
    c.meets.ensures ∙ ap (λ f. list_any (package_satisfies f) c.args.entry.now) c.facts.ensures
