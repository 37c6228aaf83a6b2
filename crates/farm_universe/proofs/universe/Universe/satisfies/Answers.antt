use Rattle.farm_model.proofs.VariantLaws.{name_within}
use Rattle.farm_universe.proofs.universe.Universe.satisfies.Goals as goal

pub name_text-requires : goal.name_text-requires
name_text-requires c = name_within c.args.self.now c.args.variant c.requires
