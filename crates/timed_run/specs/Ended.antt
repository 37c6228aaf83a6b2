-- A timed run whose lanes have all ended. Parameters: b where it begins.
--
--   IsEnded       what is known of its events
--   IsLastFree    when the last of lanes is first free
--   IsLastEnd     when the last event ends, or at first
use Rattle.std.specs.Prelude.{◌≡◌, ℕ, ◌≤◌, ◌⊎◌, true, List, [], map, All, Some, slice_get}
use Rattle.farm_model.specs.Universe.{Universe}
use Rattle.plan_model.specs.Common.{Plan, State, Run, is_finished}
use Rattle.timed_run.specs.Beginning.{Beginning}
use Rattle.timed_run.specs.declared.event.Event.{Event}
use Rattle.timed_run.specs.Timed.{AreTimed, AreInOrder, EndsAt}

-- these events lead all lanes to their ends, each is timed, and they are in order
pub record IsEnded (u : Universe) (p : Plan) (b : Beginning) (events : List Event) : Type 0 where
  pub last : State
  pub run : Run u p b.state (map (λ (e : Event). e.lane) events) last
  pub finished : is_finished p last ≡ true
  pub timed : AreTimed u p b events
  pub ordered : AreInOrder events

-- the last of lanes that are free at these times is free then, or there is none
pub record IsLastFree (free : List ℕ) (last : ℕ) : Type 0 where
  pub greatest : All (λ time. time ≤ last) free
  pub reached : ((free ≡ []) × (last ≡ 0)) ⊎ ((l : ℕ) × (slice_get free l ≡ Some last))

-- the last of these events ends then, or none ends later than at first
pub record IsLastEnd (first : ℕ) (events : List Event) (end : ℕ) : Type 0 where
  pub later : first ≤ end
  pub greatest : All (λ (e : Event). e.end ≤ end) events
  pub reached : (end ≡ first) ⊎ EndsAt events end
