-- An accepted plan, and what is promised of it. The project's own rules.
--
--   AcceptedPlan      the universe, the plan, what its lanes know, an order of its waits, its costs
--   known_rows        what its lanes know of the archive, as sets
--   IsAccepted        what is kept of every accepted plan
--   StaysForeseen     what holds of each state that its runs reach
use Rattle.std.specs.Prelude.{◌≡◌, ℕ, ◌<◌, List, length, slice_index}
use Rattle.farm_model.specs.Universe.{Universe}
use Rattle.plan_model.specs.Common.{IsForeseen, IsWithinBudget, Rows, IsGreatest, lane_cost, IsOrder, Plan, State, Reachable, IsSafeUnder, IsSound}
use Rattle.known_rows.specs.KnownRows.{KnownRows, rows_of}

-- a plan over a universe: the rows that are known at the places of each lane, the lanes in an order
-- of their waits and outputs, and the cost of each lane in file order
pub record AcceptedPlan : Type 0 where
  pub universe : Universe
  pub plan : Plan
  pub known : KnownRows
  pub order : List ℕ
  pub costs : List ℕ

-- what each lane knows at each place
abbrev pub known_rows : AcceptedPlan → Rows
known_rows a = rows_of a.known

-- the costs of the first n lanes
pub record AreCosts (u : Universe) (p : Plan) (rows : Rows) (n : ℕ) (costs : List ℕ) : Type 0 where
  pub long : length costs ≡ n
  pub each : (l : ℕ) → l < n → slice_index costs l ≡ lane_cost u p rows l

-- Of an accepted plan is kept:
pub record IsAccepted (a : AcceptedPlan) : Type 0 where
  -- the universe and the plan are what the readers make;
  pub sound : IsSound a.universe a.plan
  -- the known rows are about them,
  pub about : (a.known.universe ≡ a.universe) × (a.known.plan ≡ a.plan)
  -- and the greatest that keep to the inclusions;
  pub known : IsGreatest a.universe a.plan (known_rows a)
  -- under them no instruction may meet a trap;
  pub safe : IsSafeUnder a.universe a.plan (known_rows a)
  -- there is an order of the waits and outputs, this one;
  pub order : IsOrder a.universe a.plan a.order
  -- and these are the costs of the lanes.
  pub costs : AreCosts a.universe a.plan (known_rows a) (length a.plan) a.costs

-- Of each state that a run of an accepted plan reaches:
pub record StaysForeseen (a : AcceptedPlan) : Type 0 where
  -- the archive has what each lane knows and the facts of each publication, and nothing beyond what
  -- may be published, and each chroot is one that its may map allows;
  pub facts : (s : State) → Reachable a.universe a.plan s
      → IsForeseen a.universe a.plan (known_rows a) s
  -- and each lane has spent at most its cost, which is at most its budget.
  pub spent : (s : State) → Reachable a.universe a.plan s
      → IsWithinBudget a.universe a.plan (known_rows a) s
