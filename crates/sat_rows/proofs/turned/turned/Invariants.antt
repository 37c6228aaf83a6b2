use Rattle.std.proofs.Common.{◌≡◌, length}
use Rattle.sat_rows.proofs.TurnLaws.{AreFirst}
use Rattle.sat_rows.proofs.turned.turned.Given as goal

abbrev pub invariant-loop-number : goal.invariant-loop-number
invariant-loop-number l =
    (length l.turned.items ≡ l.count) × AreFirst l.lists l.turned.items l.count l.number
