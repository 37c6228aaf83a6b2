-- What the turn makes of a farm at work that a lane of its list has taken.
use Rattle.std.proofs.Common.{◌≡◌, ℕ, ◌+◌, ◌<◌, ◌≤◌, List, length, Some, slice_get, slice_set, sym, subst, arith, get_or}
use Rattle.std.specs.Prelude.{◌≢◌}
use Rattle.farm_model.specs.Common.{Universe, has_bit}
use Rattle.farm_model.specs.declared.types.Variant.{Variant}
use Rattle.farm_model.specs.declared.types.Trap.{Trap}
use Rattle.plan_model.specs.Common.{Lane, Plan, lane, step, turn_of}
use Rattle.plan_model.specs.Run as run
use Rattle.plan_model.specs.Turn as turn
use Rattle.farm_archive.specs.Kept.{Kept, with_publication}
use Rattle.farm_core.specs.Lanes.{shown, IsRun}
use Rattle.farm_core.specs.Turns.{IsTurn, MeetsNone}
use Rattle.farm_core.specs.Farm.{IsCore, state_of}
use Rattle.farm_core.specs.Steps.{IsStepped}
use Rattle.farm_core.specs.declared.answer.Step.TheVariants.{Moved, Blocked, Finished, Trapped}
use Rattle.farm_core.specs.declared.lane.LaneRun.{LaneRun}
use Rattle.farm_core.specs.declared.traps.Traps.{Traps}
use Rattle.farm_core.specs.declared.traps.Traps.TheVariants.{Unmet}
use Rattle.farm_core.specs.declared.turn.Turn.{Turn}
use Rattle.farm_core.specs.declared.turn.Turn.TheVariants.{Goes, Gives, Waits, Ends, Fails}
use Rattle.farm_core.proofs.Stepped.{read, in_lane, turn_free, goes, gives, waits, ends, fails, sleeps, room_there, output_known, output_named}

-- the lane was read from the list and its plan by its number
module _ (u : Universe) (p : Plan) (lanes : List LaneRun) (kept : Kept)
    (core : IsCore u p lanes kept) (l : ℕ) (r : LaneRun) (there : l < length p)
    (value : r ≡ get_or lanes l r) (of : Lane) (of_is : of ≡ lane p l) where
  at_l : slice_get lanes l ≡ Some r
  at_l = read lanes l r (omega (arith, there, core.long)) value

  -- what the lane's turn answers
  abbrev pub TookTurn : LaneRun → Turn → Type 0
  TookTurn new answer = IsTurn u of r new answer
      (turn_of u (has_bit kept.words) of (shown r) (slice_get of.instructions r.done))

  pub run_of : IsRun u of r
  run_of = subst (λ (o : Lane). IsRun u o r) (sym of_is) (core.each l r at_l)

  pub free_of : (traps : Traps) → (traps ≡ Unmet → (trap : Trap)
      → step u p (state_of lanes kept) l ≢ run.Trapped trap)
      → MeetsNone traps (turn_of u (has_bit kept.words) of (shown r)
      (slice_get of.instructions r.done))
  free_of traps free is trap =
      subst (λ (o : Lane). turn_of u (has_bit kept.words) o (shown r)
      (slice_get o.instructions r.done) ≢ turn.Fails trap) (sym of_is)
      (turn_free u p lanes kept core l r at_l (free is) trap)

  pub after_goes : (new : LaneRun) → TookTurn new Goes → r.waited ≤ length kept.history
      → IsStepped u p l lanes kept (slice_set lanes l new) kept Moved
  after_goes new t few =
      goes u p lanes kept core l r at_l new
      (in_lane u p lanes kept core l r at_l of of_is new Goes t) few

  pub given_named : (new : LaneRun) (v : Variant) → TookTurn new (Gives v)
      → v.name < length kept.words
  given_named new v t =
      output_named u p lanes kept core l r at_l new v
      (in_lane u p lanes kept core l r at_l of of_is new (Gives v) t)

  pub given_bit : (new : LaneRun) (v : Variant) → TookTurn new (Gives v) → v.bit < 64
  given_bit new v t =
      let known = output_known u p lanes kept core l r at_l new v
      (in_lane u p lanes kept core l r at_l of of_is new (Gives v) t) in
      omega (arith, known, core.sound.universe.few v.name)

  pub given_room : (new : LaneRun) (v : Variant) → TookTurn new (Gives v)
      → length kept.history < kept.room
  given_room new v t =
      room_there u p lanes kept core l r at_l new v
      (in_lane u p lanes kept core l r at_l of of_is new (Gives v) t)

  pub after_gives : (new : LaneRun) (v : Variant) → TookTurn new (Gives v)
      → r.waited ≤ length kept.history → (next : Kept)
      → next ≡ with_publication kept l v
      → IsStepped u p l lanes kept (slice_set lanes l new) next Moved
  after_gives new v t few next e =
      gives u p lanes kept core l r at_l new v
      (in_lane u p lanes kept core l r at_l of of_is new (Gives v) t) few next e

  pub after_waits : (new : LaneRun) → TookTurn new Waits → (n : ℕ) → n ≡ length kept.history + 1
      → IsStepped u p l lanes kept (slice_set lanes l (record new { waited = n })) kept Blocked
  after_waits new t n count =
      subst (λ k. IsStepped u p l lanes kept (slice_set lanes l (record new { waited = k })) kept
      Blocked) (sym count)
      (waits u p lanes kept core l r at_l new
      (in_lane u p lanes kept core l r at_l of of_is new Waits t))

  pub after_ends : (new : LaneRun) → TookTurn new Ends → r.waited ≤ length kept.history
      → IsStepped u p l lanes kept (slice_set lanes l new) kept Finished
  after_ends new t few =
      ends u p lanes kept core l r at_l new
      (in_lane u p lanes kept core l r at_l of of_is new Ends t) few

  pub after_fails : (new : LaneRun) (trap : Trap) → TookTurn new (Fails trap)
      → r.waited ≤ length kept.history
      → IsStepped u p l lanes kept (slice_set lanes l new) kept (Trapped trap)
  after_fails new trap t few =
      fails u p lanes kept core l r at_l new trap
      (in_lane u p lanes kept core l r at_l of of_is new (Fails trap) t) few

  pub after_sleep : length kept.history < r.waited
      → IsStepped u p l lanes kept (slice_set lanes l r) kept Blocked
  after_sleep late = sleeps u p lanes kept core l r at_l late
