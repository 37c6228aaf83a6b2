use Rattle.std.proofs.Common.{◌≡◌, ℕ, ◌<◌, [], length, get_or}
use Rattle.sat_rows.specs.Links.{nth_list, AreJoined}
use Rattle.sat_rows.proofs.joined.all_joined.Given as goal

abbrev pub invariant-loop-name : goal.invariant-loop-name
invariant-loop-name l =
    (length l.joined.items ≡ l.name)
    × ((n : ℕ) → n < length l.joined.items
    → AreJoined (nth_list l.by_name n) l.by_entry (get_or l.joined.items n []))
