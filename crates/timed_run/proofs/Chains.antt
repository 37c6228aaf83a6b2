-- The chain of the critical path, one event after another.
use Rattle.std.proofs.Common.{◌≡◌, ℕ, suc, ◌<◌, ◌≤◌, inl, inr, List, [], ◌∷◌, ◌++◌, length, take, Option, Some, None, slice_get, refl, sym, ◌∙◌, subst, arith}
use Rattle.std.proofs.lemmas.Option.{none-some, same_Some, slice_get_within}
use Rattle.farm_model.specs.Common.{Universe, outputs, IsKnown}
use Rattle.farm_model.specs.declared.types.Variant.{Variant}
use Rattle.plan_model.specs.Common.{Plan, lane, instruction_at, lane_state, IsSound, LaneState, Turn, Goes, Gives, Waits, Ends, Fails, turn_of}
use Rattle.farm_laws.proofs.Places.{PlaceMove, turn_place}
use Rattle.timed_run.specs.Beginning.{Beginning, first_free}
use Rattle.timed_run.specs.declared.event.Event.{Event}
use Rattle.timed_run.specs.Timed.{archive_at, turn_over, Takes, IsTimed, AreTimed}
use Rattle.timed_run.specs.Path.{NoneFrom, Follows, LetsOn, IsChain, IsLinked}
use Rattle.timed_run.proofs.Ahead.{timed-time, free-by, free-first}
use Rattle.timed_run.proofs.Lists.{all_at}
use Rattle.timed_run.proofs.Waited.{waited-for}

-- an output is a variant of the universe
taken-known : (u : Universe) (p : Plan) → IsSound u p → (e : Event) (st : LaneState)
    (there : Variant → _) (turn : Turn) → turn_of u there (lane p e.lane) st
    (instruction_at p e.lane st.done) ≡ turn → Takes e st turn → (v : Variant)
    → e.output ≡ Some v → IsKnown u v
taken-known u p sound e st there (Goes next) is t v some =
    absurd (none-some v (sym t.0 ∙ some))
taken-known u p sound e st there (Gives next w) is t v some =
    let move = subst (PlaceMove u there (lane p e.lane) st (instruction_at p e.lane st.done)) is
    (turn_place u there (lane p e.lane) st (instruction_at p e.lane st.done)) in
    let same : w ≡ v = same_Some w v (sym t.0 ∙ some) in
    subst (IsKnown u) same
    (all_at (IsKnown u) (outputs u move.recipe) (sound.universe.outputs_known move.recipe)
    st.made w move.output)
taken-known u p sound e st there Waits is t v some = absurd t
taken-known u p sound e st there Ends is t v some = absurd t
taken-known u p sound e st there (Fails trap) is t v some = absurd t

pub timed-known : (u : Universe) (p : Plan) (b : Beginning) → IsSound u p → (events before : List Event)
    (e : Event) → IsTimed u p b events before e → (v : Variant) → e.output ≡ Some v → IsKnown u v
timed-known u p b sound events before e t v some =
    taken-known u p sound e (lane_state t.state e.lane) (archive_at u b events e.begin)
    (turn_over u p t.state e.lane (archive_at u b events e.begin)) refl t.takes v some

module _ (u : Universe) (p : Plan) (b : Beginning) (events : List Event) where
  pub linked-more : (path : List ℕ) (k : ℕ) (next : Option ℕ)
      → IsLinked u p b events path (Some k) → IsLinked u p b events (k ∷ []) next
      → IsLinked u p b events (path ++ k ∷ []) next
  linked-more [] k next l more = more
  linked-more (i ∷ []) k next l more = (l, more)
  linked-more (i ∷ j ∷ path) k next l more = (l.0, linked-more (j ∷ path) k next l.1 more)

  pub linked-ends : (k : ℕ) (path : List ℕ) → IsLinked u p b events (k ∷ path) None
      → IsChain u p b events (k ∷ path)
  linked-ends k [] l = l
  linked-ends k (j ∷ path) l = (l.0, linked-ends j path l.1)

  module _ (timed : AreTimed u p b events) (k : ℕ) (e : Event) (at : slice_get events k ≡ Some e)
    where
      within : k ≤ length events
      within = let lt = slice_get_within events k e at in omega (arith, lt)

      -- an event that waited has an output ahead
      pub never-none : e.free < e.begin → ((j : ℕ) → LetsOn u p events j k → ⊥) → ⊥
      never-none lt none =
          let some = waited-for u p b events k e (timed k e at) lt in
          none some.0 (record {
            ahead = some.1;
            it = e;
            at_ahead = some.2;
            at_it = at;
            joins = some.3;
            lets = some.4;
          })

      pub follows-output : e.free < e.begin → (j : ℕ) → LetsOn u p events j k
          → Follows u p events j k
      follows-output lt j l =
          let same : e ≡ l.it = same_Some e l.it (sym at ∙ l.at_it) in record {
            ahead = l.ahead;
            it = l.it;
            at_ahead = l.at_ahead;
            at_it = l.at_it;
            joins = l.joins;
            why = inr (subst (λ (x : Event). x.free < x.begin) same lt, l.lets);
          }

      -- an event that did not wait begins when that before it in its lane ends
      pub follows-lane : e.begin ≤ e.free → (j : ℕ) (a : Event) → slice_get events j ≡ Some a
          → j < k → a.lane ≡ e.lane → NoneFrom events e.lane (suc j) k → Follows u p events j k
      follows-lane le j a at_j lt same none =
          let t = timed k e at in
          let is_free = free-by (first_free b e.lane) e.lane events j k a lt within at_j same none in record {
            ahead = a;
            it = e;
            at_ahead = at_j;
            at_it = at;
            joins = omega (arith, is_free, t.free, t.later, le);
            why = inl (lt, same);
          }

      -- or when the lane is first free
      pub begins-first : e.begin ≤ e.free → NoneFrom events e.lane 0 k
          → e.begin ≡ first_free b e.lane
      begins-first le none =
          let t = timed k e at in
          let is_free = free-first (first_free b e.lane) e.lane events k within none in
          omega (arith, is_free, t.free, le)

  -- what is ahead of an event is nearer to the beginning
  pub nearer : AreTimed u p b events → (j k : ℕ) (f : Follows u p events j k)
      → (f.ahead.begin ≤ f.it.begin) × (j < length events)
      × ((f.ahead.begin ≡ f.it.begin) → j < k)
  nearer timed j k f =
      let time = timed-time u p b events (take j events) f.ahead (timed j f.ahead f.at_ahead) in
      let within = slice_get_within events j f.ahead f.at_ahead in (
        omega (arith, time.0, f.joins),
        within,
        λ same. elim f.why [
          | inl lane ↦ lane.0
          | inr wait ↦
              let less = time.1 wait.1.output wait.1.gives in
              absurd (omega (arith, less, f.joins, same))
        ],
      )
