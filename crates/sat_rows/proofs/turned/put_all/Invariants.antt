use Rattle.std.proofs.Common.{◌≡◌, length, take}
use Rattle.sat_rows.proofs.TurnLaws.{PutsFirst}
use Rattle.sat_rows.proofs.turned.put_all.Given as goal

abbrev pub invariant-loop-at : goal.invariant-loop-at
invariant-loop-at l =
    (length l.lists.items ≡ length l.fn.lists.items)
    × PutsFirst l.fn.lists.items l.lists.items l.number (take l.at-index l.at-items)
