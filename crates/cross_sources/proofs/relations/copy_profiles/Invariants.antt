use Rattle.std.proofs.Common.{◌≡◌, take}
use Rattle.cross_sources.proofs.relations.copy_profiles.Given as goal

abbrev pub invariant-loop-list : goal.invariant-loop-list
invariant-loop-list l = l.copies.items ≡ take l.list-index l.lists
