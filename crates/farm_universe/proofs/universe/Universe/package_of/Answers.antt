use Rattle.farm_model.proofs.VariantLaws.{name_within}
use Rattle.farm_universe.proofs.universe.Universe.package_of.Goals as goal

pub packages_named-requires : goal.packages_named-requires
packages_named-requires c = name_within c.args.self.now c.args.variant c.requires
