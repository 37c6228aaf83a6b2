-- A lane that keeps to its may map. Parameters: u the universe, p the plan, rows what its lanes
-- know, l the lane, st its state.
--
--   place_paid     the place up to which what a lane has spent counts
--   Agrees         the lane keeps to the may map of its place
--   AgreesAfter    and so it does after this turn, which meets no trap
use Rattle.std.specs.Prelude.{◌≡◌, ℕ, zero, suc, ◌≤◌, true, length}
use Rattle.farm_model.specs.Universe.{Universe}
use Rattle.plan_model.specs.Common.{AllowsAll, Rows, may_at, Plan, LaneState, was_built, Turn, Goes, Gives, Waits, Ends, Fails}

-- behind a publish that the lane has begun, which is charged whole with its first output
abbrev pub place_paid : (done made : ℕ) → ℕ
place_paid done zero = done
place_paid done (suc made) = suc done

-- What the map allows, the lane has:
pub record Agrees (u : Universe) (p : Plan) (rows : Rows) (l : ℕ) (st : LaneState) : Type 0 where
  -- each name of its chroot is in a state that the map has;
  pub allows : AllowsAll u (may_at u p rows l st.done) st.chroot
  -- it has spent at most the map's cost;
  pub spent : st.spent ≤ (may_at u p rows l (place_paid st.done st.made)).cost
  -- and what the map has built it has built.
  pub long : length (may_at u p rows l st.done).built ≤ length st.built
  pub built : (r : ℕ) → was_built (may_at u p rows l st.done).built r ≡ true
      → was_built st.built r ≡ true

-- wherever the turn leads to
abbrev pub AgreesAfter : Universe → Plan → Rows → ℕ → Turn → Type 0
AgreesAfter u p rows l (Goes next) = Agrees u p rows l next
AgreesAfter u p rows l (Gives next v) = Agrees u p rows l next
AgreesAfter u p rows l Waits = Unit {0}
AgreesAfter u p rows l Ends = Unit {0}
AgreesAfter u p rows l (Fails trap) = ⊥
