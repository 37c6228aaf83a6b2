use Rattle.std.proofs.Common.{◌≡◌, ℕ, length, slice_index_or}
use Rattle.wait_order.specs.Standing.{no_standing}
use Rattle.wait_order.proofs.rounds.starts.Given as goal

abbrev pub invariant-loop-number : goal.invariant-loop-number
invariant-loop-number l =
    (length l.ats.items ≡ l._number)
    × ((k : ℕ) → slice_index_or l.ats.items k no_standing ≡ no_standing)
