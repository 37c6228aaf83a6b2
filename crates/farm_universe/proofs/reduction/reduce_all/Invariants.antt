use Rattle.std.proofs.Common.{◌≡◌, ◌++◌, map, take, drop}
use Rattle.deb_text.specs.Lists.{lists}
use Rattle.farm_universe.specs.Land.{reduced_package}
use Rattle.farm_universe.proofs.reduction.reduce_all.Given as goal

abbrev pub invariant-loop-named : goal.invariant-loop-named
invariant-loop-named l =
    lists l.packages
    ≡ map (map (reduced_package l.architectures)) (take l.named-index (lists l.fn.packages))
    ++ drop l.named-index (lists l.fn.packages)
