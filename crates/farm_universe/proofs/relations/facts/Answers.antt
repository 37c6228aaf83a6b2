use Rattle.farm_model.specs.Packages.{facts}
use Rattle.farm_universe.proofs.PlaceLaws.{named}
use Rattle.farm_universe.proofs.relations.facts.Goals as goal

pub name_text-requires : goal.name_text-requires
name_text-requires c = named c.args.universe.now c.args.variant.name c.args.variant.bit c.requires

pub returns : goal.returns
unfolding facts
returns c =
    λ i. record {
      name = c.name_text.ensures i;
      version = c.version.ensures i;
      provides = c.relations.ensures.provides i;
    }
