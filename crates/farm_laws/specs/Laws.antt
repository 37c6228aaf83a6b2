-- The laws of an annotated plan, for every universe and plan that the readers make, every family of
-- rows that keeps to the inclusions and under which each instruction is safe, and every order.
use Rattle.std.specs.Prelude.{ℕ, List}
use Rattle.farm_model.specs.Universe.{Universe}
use Rattle.plan_model.specs.Common.{Plan, State, Reachable, Rows, IsAnnotation, IsOrder, IsSound, IsSafe, IsForeseen, IsWithinBudget, PlaysSafely}

-- every interleaving: no run ends in a trap, some lane can step until all are finished, no run is
-- longer than the count
abbrev pub EveryInterleaving : Type 0
EveryInterleaving = (u : Universe) (p : Plan) (rows : Rows) (order : List ℕ) → IsSound u p
    → IsAnnotation u p rows → IsOrder u p order → IsSafe u p

-- the four facts of each state that is reached
abbrev pub StatesAreForeseen : Type 0
StatesAreForeseen = (u : Universe) (p : Plan) (rows : Rows) → IsSound u p → IsAnnotation u p rows
    → (s : State) → Reachable u p s → IsForeseen u p rows s

-- each lane has spent at most its cost, which is at most its budget
abbrev pub LanesAreWithinBudget : Type 0
LanesAreWithinBudget =
    (u : Universe) (p : Plan) (rows : Rows) → IsSound u p → IsAnnotation u p rows → (s : State)
    → Reachable u p s → IsWithinBudget u p rows s

-- no schedule meets a trap, whatever lane numbers it has
abbrev pub SchedulesMeetNoTrap : Type 0
SchedulesMeetNoTrap = (u : Universe) (p : Plan) (rows : Rows) → IsSound u p → IsAnnotation u p rows
    → PlaysSafely u p
