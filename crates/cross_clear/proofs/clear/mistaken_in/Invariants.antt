use Rattle.std.proofs.Common.{◌≡◌, true, take}
use Rattle.std.specs.List.{list_all}
use Rattle.cross_clear.specs.Guard.{is_unmistaken}
use Rattle.cross_clear.proofs.clear.mistaken_in.Given as goal

abbrev pub invariant-loop-atom : goal.invariant-loop-atom
invariant-loop-atom l =
    list_all (λ a. is_unmistaken l.members.sides.now l.members.all.now l.binary a)
    (take l.atom-index l.entry) ≡ true
