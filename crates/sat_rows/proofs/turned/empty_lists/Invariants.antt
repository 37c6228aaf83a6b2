use Rattle.std.proofs.Common.{◌≡◌, ℕ, [], length}
use Rattle.sat_rows.specs.Links.{nth_list}
use Rattle.sat_rows.proofs.turned.empty_lists.Given as goal

abbrev pub invariant-loop-number : goal.invariant-loop-number
invariant-loop-number l =
    (length l.lists.items ≡ l.number) × ((j : ℕ) → nth_list l.lists.items j ≡ [])
