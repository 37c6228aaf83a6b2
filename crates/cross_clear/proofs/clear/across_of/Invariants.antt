use Rattle.std.proofs.Common.{◌≡◌, true, take}
use Rattle.std.specs.List.{list_all}
use Rattle.cross_clear.specs.Across.{is_across_none}
use Rattle.cross_clear.proofs.clear.across_of.Given as goal

abbrev pub invariant-loop-atom : goal.invariant-loop-atom
invariant-loop-atom l =
    list_all (λ a. is_across_none l.members.sides.now a l.members.all.now)
    (take l.atom-index l.entry) ≡ true
