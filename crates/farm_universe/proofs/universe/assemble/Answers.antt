use Rattle.farm_universe.specs.FarmView.{land_view}
use Rattle.farm_universe.proofs.KeptLaws.{IsKept-universe_with}
use Rattle.farm_universe.proofs.universe.assemble.Goals as goal

pub invariant_of-result : goal.invariant_of-result
invariant_of-result c =
    IsKept-universe_with (land_view c.args.farm.land) c.requires.land c.args.farm.yard
    c.requires.yard
