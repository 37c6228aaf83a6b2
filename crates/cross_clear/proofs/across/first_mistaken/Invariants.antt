use Rattle.std.proofs.Common.{◌≡◌, true, not, take}
use Rattle.std.specs.List.{list_all}
use Rattle.cross_laws.specs.Clear.{is_mistaken}
use Rattle.cross_clear.proofs.across.first_mistaken.Given as goal

abbrev pub invariant-loop-other : goal.invariant-loop-other
invariant-loop-other l =
    list_all (λ q. not (is_mistaken l.sides l.all l.binary l.atom q)) (take l.other l.all) ≡ true
