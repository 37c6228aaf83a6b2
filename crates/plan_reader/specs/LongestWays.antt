-- The most events to a lane's end, as the code counts them.
use Rattle.std.specs.Prelude.{ℕ, ◌≤◌}
use Rattle.plan_reader.specs.declared.events.Ways.{Ways}
use Rattle.plan_model.specs.Plan.{Ways as WaysRecord}

abbrev pub ways_of : Ways → WaysRecord
ways_of w = record { here = w.here; past_else = w.past_else; past_end = w.past_end }

-- none of them is more than so many
pub record AreWithin (n : ℕ) (w : Ways) : Type 0 where
  pub here : w.here ≤ n
  pub past_else : w.past_else ≤ n
  pub past_end : w.past_end ≤ n
