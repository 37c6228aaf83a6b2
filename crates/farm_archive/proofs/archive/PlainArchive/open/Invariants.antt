use Rattle.std.proofs.Common.{◌≡◌, take}
use Rattle.farm_archive.proofs.archive.PlainArchive.open.Given as goal

abbrev pub invariant-loop-name : goal.invariant-loop-name
invariant-loop-name l = l.words.items ≡ take l.name l.universe.initial
