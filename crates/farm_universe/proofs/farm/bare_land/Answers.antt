use Rattle.std.proofs.Common.{refl}
use Rattle.farm_universe.proofs.BeforeLaws.{no-names}
use Rattle.farm_universe.proofs.farm.bare_land.Goals as goal

pub returns-clause-bare : goal.returns-clause-bare
returns-clause-bare c =
    rw (
      no-names _ c.in-Ok.ensures,
      c.in-Ok-empty_list.ensures.listed.words,
      c.in-Ok-empty_list.ensures.empty,
    ) refl
