use Rattle.std.proofs.Common.{◌≡◌, ℕ, ◌<◌, [], length, get_or}
use Rattle.sat_rows.specs.Links.{IsJoined}
use Rattle.sat_rows.proofs.joined.joined_name.Given as goal

abbrev pub invariant-loop-bit : goal.invariant-loop-bit
invariant-loop-bit l =
    (length l.lists.items ≡ l.bit)
    × ((b : ℕ) → b < length l.lists.items
    → IsJoined l.entries l.by_entry b (get_or l.lists.items b []))
