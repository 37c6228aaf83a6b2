use Rattle.std.proofs.Common.{◌≡◌, ℕ, ◌||◌, take}
use Rattle.sat_rows.specs.Found.{among}
use Rattle.sat_rows.proofs.found.Found.add_all.Given as goal

abbrev pub invariant-loop-at : goal.invariant-loop-at
invariant-loop-at l =
    (n b : ℕ) → among l.self n b ≡ (among l.fn.self n b || among (take l.at-index l.words) n b)
