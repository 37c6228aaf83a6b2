-- What stands ahead of an event on the critical path.
use Rattle.std.proofs.Common.{◌≡◌, ℕ, zero, suc, ◌+◌, ◌-◌, ◌<◌, ◌≤◌, List, [], ◌∷◌, ◌++◌, length, take, Some, None, slice_get, get_or, sym, ap, ◌∙◌, subst, arith}
use Rattle.std.proofs.lemmas.Option.{none-some, slice_get-get_or}
use Rattle.farm_model.specs.Universe.{Universe}
use Rattle.farm_model.specs.declared.types.Variant.{Variant}
use Rattle.plan_model.specs.Common.{Plan, lane_state, LaneState, Turn, Goes, Gives, Waits, Ends, Fails}
use Rattle.farm_laws.proofs.Archive.{take_some}
use Rattle.timed_run.specs.Beginning.{Beginning}
use Rattle.timed_run.specs.declared.event.Event.{Event}
use Rattle.timed_run.specs.Timed.{archive_at, free_at, turn_over, Takes, IsTimed}
use Rattle.timed_run.specs.Path.{NoneFrom}
use Rattle.timed_run.proofs.Events.{free_here, free_other}

-- no event ends before it begins, and an output ends one step later
pub takes-time : (e : Event) (st : LaneState) (turn : Turn) → Takes e st turn
    → (e.begin ≤ e.end) × ((v : Variant) → e.output ≡ Some v → e.begin < e.end)
takes-time e st (Goes next) t =
    (omega (arith, t.1), λ v is. absurd (none-some v (sym t.0 ∙ is)))
takes-time e st (Gives next v) t = (omega (arith, t.1), λ w is. omega (arith, t.1))
takes-time e st Waits t = absurd t
takes-time e st Ends t = absurd t
takes-time e st (Fails trap) t = absurd t

pub timed-time : (u : Universe) (p : Plan) (b : Beginning) (events before : List Event) (e : Event)
    → IsTimed u p b events before e
    → (e.begin ≤ e.end) × ((v : Variant) → e.output ≡ Some v → e.begin < e.end)
timed-time u p b events before e t = takes-time e (lane_state t.state e.lane)
    (turn_over u p t.state e.lane (archive_at u b events e.begin)) t.takes

-- what is read past the last event
abbrev no_event : Event
no_event = record { lane = 0; place = 0; free = 0; begin = 0; end = 0; output = None }

-- the lane is then as free as it was at j
pub free-back : (first l : ℕ) (events : List Event) (j n : ℕ) → j + n ≤ length events
    → NoneFrom events l j (j + n)
    → free_at first l (take (j + n) events) ≡ free_at first l (take j events)
free-back first l events j zero within none =
    let same : j + 0 ≡ j = omega arith in ap (λ i. free_at first l (take i events)) same
free-back first l events j (suc n) within none =
    let lt : j + n < length events = omega (arith, within) in
    let at = slice_get-get_or events (j + n)
    no_event lt in
    let e = get_or events (j + n)
    no_event in
    let next : j + suc n ≡ suc (j + n) = omega arith in
    let more : take (j + suc n) events ≡ take (j + n) events ++ e ∷ [] =
    ap (λ i. take i events) next ∙ take_some events (j + n) e at in
    ap (free_at first l) more
    ∙ (free_other first l (take (j + n) events) e
    (none (j + n) e (omega arith) (omega arith) at)
    ∙ free-back first l events j n (omega (arith, within))
    (λ i x from to. none i x from (omega (arith, to))))

-- an event of the lane behind which none is of it
pub free-by : (first l : ℕ) (events : List Event) (j k : ℕ) (e : Event) → j < k → k ≤ length events
    → slice_get events j ≡ Some e → e.lane ≡ l → NoneFrom events l (suc j) k
    → free_at first l (take k events) ≡ e.end
free-by first l events j k e lt within at here none =
    let n = k - suc j in
    let sum : suc j + n ≡ k = omega (arith, lt) in
    ap (λ i. free_at first l (take i events)) (sym sum)
    ∙ (free-back first l events (suc j) n (omega (arith, within, sum))
    (subst (NoneFrom events l (suc j)) (sym sum) none)
    ∙ (ap (free_at first l) (take_some events j e at) ∙ free_here first l (take j events) e here))

-- a lane that has none is free when it is first
pub free-first : (first l : ℕ) (events : List Event) (k : ℕ) → k ≤ length events
    → NoneFrom events l 0 k → free_at first l (take k events) ≡ first
free-first first l events k within none =
    let same : 0 + k ≡ k = omega arith in
    ap (λ i. free_at first l (take i events)) (sym same)
    ∙ free-back first l events 0 k (omega (arith, within))
    (subst (NoneFrom events l 0) (sym same) none)
