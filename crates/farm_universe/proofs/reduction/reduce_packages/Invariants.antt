use Rattle.std.proofs.Common.{◌≡◌, ◌++◌, map, take, drop}
use Rattle.farm_universe.specs.Land.{reduced_package}
use Rattle.farm_universe.proofs.reduction.reduce_packages.Given as goal

abbrev pub invariant-loop-binary : goal.invariant-loop-binary
invariant-loop-binary l =
    l.packages ≡ map (reduced_package l.architectures) (take l.binary-index l.fn.packages)
    ++ drop l.binary-index l.fn.packages
