use Rattle.std.proofs.Common.{◌≡◌, length}
use Rattle.known_rows.proofs.by_name.ByName.new.Given as goal

abbrev pub invariant-loop : goal.invariant-loop
invariant-loop l =
    length l.lists.items ≡ l.counter
