-- What a chroot may hold behind two branches, name by name. Parameters: u a universe, first what
-- may be at the end of the first branch, m at that of the second.
--
--   either_last_word     the word of what was configured last
--   joined_below         the map where the names below a number are joined
--   BothBelow            the recipes built, those below a number in both
--   joined_rest          the words with the cost and the recipes of both
use Rattle.std.specs.Prelude.{◌≡◌, ℕ, ◌<◌, ◌≤◌, max, Bool, false, ◌&&◌, ◌||◌, ◌==◌, nat_lt, List, length, slice_index_or, bit_or, if◌then◌else◌}
use Rattle.farm_model.specs.Universe.{Universe}
use Rattle.plan_model.specs.Common.{May, joined_slot, both_built}
use Rattle.may_rows.specs.Words.{Words}

-- those of either word, or none where one has none
abbrev pub either_last_word : ℕ → ℕ → ℕ
either_last_word last other = if last == 0 || other == 0 then 0 else bit_or last other

abbrev pub joined_below : Universe → May → ℕ → May → May
joined_below u first k m = record m {
  slots = λ n. if nat_lt n k then joined_slot u n (first.slots n) (m.slots n) else m.slots n;
}

-- of the recipes, those below k are built where both lists have them
pub record BothBelow (first old : List Bool) (k : ℕ) (new : List Bool) : Type 0 where
  pub long : length new ≡ length old
  pub below : (r : ℕ) → r < k → slice_index_or new r false
      ≡ (slice_index_or first r false && slice_index_or old r false)
  pub others : (r : ℕ) → k ≤ r → slice_index_or new r false ≡ slice_index_or old r false

-- the words with the greater cost, and the recipes that both have built
abbrev pub joined_rest : Words → Words → Words
joined_rest first w = record w {
  cost = max first.cost w.cost;
  built = both_built first.built w.built;
}
