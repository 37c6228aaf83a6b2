use Rattle.std.proofs.Common.{◌≡◌, true, take}
use Rattle.cross_clear.specs.Across.{is_across_none}
use Rattle.cross_clear.proofs.across.across_in.Given as goal

abbrev pub invariant-loop-at : goal.invariant-loop-at
invariant-loop-at l = is_across_none l.sides l.atom (take l.at l.all) ≡ true
