-- What a lane's step makes of a timed run.
use Rattle.std.proofs.Common.{◌≡◌, ◌≢◌, ℕ, ◌+◌, ◌-◌, ◌^◌, ◌<◌, ◌≤◌, true, List, [], ◌∷◌, ◌++◌, length, map, Option, Some, None, slice_get, slice_set, refl, sym, ap, ◌∙◌, subst, arith, get_or-set_same}
use Rattle.std.specs.Prelude.{nat_lt}
use Rattle.std.proofs.lemmas.Bool.{cond-true, lt-ltb}
use Rattle.std.proofs.lemmas.List.{length-append, length-map}
use Rattle.std.proofs.lemmas.Option.{none-some, same_Some}
use Rattle.farm_model.specs.Universe.{Universe}
use Rattle.farm_model.specs.declared.types.Variant.{Variant}
use Rattle.farm_model.specs.declared.types.Trap.{Trap}
use Rattle.plan_model.specs.Common.{Plan, count, IsSafe, IsSound, LaneState, Turn, Goes, Gives, Waits, Ends, Fails, Publication, publication, State, start, archive, lane_state, no_state, Moved, Unknown, Trapped, outcome, step, Run}
use Rattle.farm_laws.specs.EventsLeft.{InPlaces}
use Rattle.farm_laws.proofs.EventsLeft.{step_places, places_at_start}
use Rattle.farm_laws.proofs.Steps.{put, put_output, run_keeps}
use Rattle.timed_run.specs.Beginning.{Beginning}
use Rattle.timed_run.specs.declared.clock.Clock.{Clock}
use Rattle.timed_run.specs.declared.event.Event.{Event}
use Rattle.timed_run.specs.Timed.{turn_over, rests, IsNoLater}
use Rattle.timed_run.specs.Clocks.{moment_of, IsTiming, AreWoken}
use Rattle.timed_run.proofs.Lists.{run-then}
use Rattle.timed_run.proofs.Goes.{timing-goes}
use Rattle.timed_run.proofs.Gives.{timing-gives}

-- a lane has moved by an instruction, or by an output
data MovedBy (u : Universe) (p : Plan) (s : State) (l : ℕ) (after : State) : Type 0 where
  ByGoing : (next : LaneState) → turn_over u p s l (archive u s.published) ≡ Goes next
      → after ≡ put s l next → MovedBy u p s l after
  ByGiving : (next : LaneState) (v : Variant)
      → turn_over u p s l (archive u s.published) ≡ Gives next v
      → after ≡ put_output s l next v → MovedBy u p s l after

step_over : (u : Universe) (p : Plan) (s : State) (l : ℕ) → l < length p
    → step u p s l ≡ outcome s l (turn_over u p s l (archive u s.published))
unfolding step
step_over u p s l lt = cond-true (nat_lt l (length p)) _ Unknown (lt-ltb l (length p) lt)

same_state : (a b : State) → Moved a ≡ Moved b → b ≡ a
same_state a b e = cc

moved_by : (u : Universe) (p : Plan) (s : State) (l : ℕ) (after : State) → l < length p
    → step u p s l ≡ Moved after → MovedBy u p s l after
moved_by u p s l after lt e =
    by (turn_over u p s l (archive u s.published)) refl (sym (step_over u p s l lt) ∙ e)
  where
    by : (turn : Turn) → turn_over u p s l (archive u s.published) ≡ turn
        → outcome s l turn ≡ Moved after → MovedBy u p s l after
    by (Goes next) is o = ByGoing next is (same_state _ after o)
    by (Gives next v) is o = ByGiving next v is (same_state _ after o)
    by Waits is o = cc
    by Ends is o = cc
    by (Fails trap) is o = cc

-- a lane that does not move in a safe plan rests
pub unmoved_rests : (u : Universe) (p : Plan) (s : State) (l : ℕ) → l < length p
    → ((trap : Trap) → step u p s l ≢ Trapped trap)
    → ((next : State) → step u p s l ≡ Moved next → ⊥)
    → rests (turn_over u p s l (archive u s.published)) ≡ true
unmoved_rests u p s l lt safe unmoved =
    by (turn_over u p s l (archive u s.published)) (step_over u p s l lt)
  where
    by : (turn : Turn) → step u p s l ≡ outcome s l turn → rests turn ≡ true
    by (Goes next) is = absurd (unmoved _ is)
    by (Gives next v) is = absurd (unmoved _ is)
    by Waits is = refl
    by Ends is = refl
    by (Fails trap) is = absurd (safe trap is)

last_of : (ps : List Publication) (q : Publication)
    → slice_get (ps ++ q ∷ []) (length ps) ≡ Some q
last_of [] q = refl
last_of (x ∷ ps) q = last_of ps q

none_behind : (ps : List Publication) → slice_get ps (length ps) ≡ None
none_behind [] = refl
none_behind (x ∷ ps) = none_behind ps

-- the run that has led here from the beginning of the plan
pub whole_of : (u : Universe) (p : Plan) (b : Beginning) (events : List Event) (s : State)
    (clocks : List Clock) (t : IsTiming u p b events s clocks)
    → Run u p (start u p) (t.reached.0 ++ map (λ (e : Event). e.lane) events) s
whole_of u p b events s clocks t =
    run-then u p t.reached.0 (map (λ (e : Event). e.lane) events) (start u p) b.state s t.reached.1
    t.run

-- each lane has a state
lanes_long : (u : Universe) (p : Plan) → IsSound u p → (ls : List ℕ) (s : State)
    → Run u p (start u p) ls s → length s.lanes ≡ length p
lanes_long u p sound ls s run =
    (run_keeps u p (InPlaces u p) (λ a b l ok e. (step_places u p sound a b l ok e).0) ls
    (start u p) s run (places_at_start u p sound)).long

module _ (u : Universe) (p : Plan) (b : Beginning) (sound : IsSound u p) (events : List Event) (s : State)
    (clocks : List Clock) (t : IsTiming u p b events s clocks) (l : ℕ) (c : Clock)
    (is : slice_get clocks l ≡ Some c) (there : l < length clocks) (awake : c.awake ≡ true)
    (first : (k : ℕ) (d : Clock) → slice_get clocks k ≡ Some d → d.awake ≡ true
    → IsNoLater (moment_of p s l c.next) l (moment_of p s k d.next) k) (after : State)
    (moves : step u p s l ≡ Moved after) where
  abbrev event_of : ℕ → Option Variant → Event
  event_of end output = record {
    lane = l;
    place = (lane_state s l).done;
    free = c.free;
    begin = c.next;
    end = end;
    output = output;
  }

  abbrev clock_at : ℕ → Clock
  clock_at end = record { free = end; next = end; awake = true }

  by_what : MovedBy u p s l after
  by_what = moved_by u p s l after (omega (arith, there, t.long)) moves

  -- behind an instruction
  pub moves-plain : slice_get after.published (length s.published) ≡ None
      → (lane_state after l).spent - (lane_state s l).spent < 2 ^ 64
      → (end : ℕ) → end ≡ c.next + ((lane_state after l).spent - (lane_state s l).spent)
      → IsTiming u p b (events ++ event_of end None ∷ []) after (slice_set clocks l (clock_at end))
  moves-plain none short end is_end = by by_what
    where
      by : MovedBy u p s l after
          → IsTiming u p b (events ++ event_of end None ∷ []) after
          (slice_set clocks l (clock_at end))
      by (ByGoing next goes is_after) =
          let here : lane_state after l ≡ next =
          ap (λ (x : State). lane_state x l) is_after
          ∙ get_or-set_same s.lanes l next no_state
          (omega (arith, there, t.long, lanes_long u p sound _ s (whole_of u p b events s clocks t))) in
          let ends : end ≡ c.next + (next.spent - (lane_state s l).spent) =
          is_end ∙ ap (λ (x : LaneState). c.next + (x.spent - (lane_state s l).spent)) here in
          let timing = timing-goes u p b events s clocks t l c is awake first next goes
          (moves ∙ ap Moved is_after)
          (subst (λ (x : LaneState). x.spent - (lane_state s l).spent < 2 ^ 64) here short) in
          subst (λ n. IsTiming u p b (events ++ event_of n None ∷ []) after
          (slice_set clocks l (clock_at n))) (sym ends)
          (subst (λ x. IsTiming u p b (events
          ++ event_of (c.next + (next.spent - (lane_state s l).spent)) None ∷ []) x
          (slice_set clocks l (clock_at (c.next + (next.spent - (lane_state s l).spent)))))
          (sym is_after) timing)
      by (ByGiving next v gives is_after) =
          absurd (none-some (publication l v) (sym none
          ∙ (ap (λ (x : State). slice_get x.published (length s.published)) is_after
          ∙ last_of s.published (publication l v))))

  -- behind an output
  pub moves-gives : (q : Publication) → slice_get after.published (length s.published) ≡ Some q
      → (new : List Clock) (n : ℕ) → length clocks ≤ n
      → AreWoken u p after q.variant (c.next + 1) n
      (slice_set clocks l (clock_at (c.next + 1))) new
      → IsTiming u p b (events ++ event_of (c.next + 1) (Some q.variant) ∷ []) after new
  moves-gives q some new n enough woken = by by_what
    where
      by : MovedBy u p s l after
          → IsTiming u p b (events ++ event_of (c.next + 1) (Some q.variant) ∷ []) after new
      by (ByGoing next goes is_after) =
          absurd (none-some q (sym (none_behind s.published)
          ∙ (sym (ap (λ (x : State). slice_get x.published (length s.published)) is_after)
          ∙ some)))
      by (ByGiving next v gives is_after) =
          let same : q ≡ publication l v =
          same_Some q (publication l v) (sym some
          ∙ (ap (λ (x : State). slice_get x.published (length s.published)) is_after
          ∙ last_of s.published (publication l v))) in
          let is_v : q.variant ≡ v = ap (λ (x : Publication). x.variant) same in
          let over : AreWoken u p (put_output s l next v) v (c.next + 1) n
          (slice_set clocks l (clock_at (c.next + 1))) new =
          subst (λ x. AreWoken u p x v (c.next + 1) n
          (slice_set clocks l (clock_at (c.next + 1))) new) is_after
          (subst (λ w. AreWoken u p after w (c.next + 1) n
          (slice_set clocks l (clock_at (c.next + 1))) new) is_v woken) in
          let timing = timing-gives u p b events s clocks t l c is awake first next v gives
          (moves ∙ ap Moved is_after) new n enough over in
          subst (λ w. IsTiming u p b (events ++ event_of (c.next + 1) (Some w) ∷ []) after new)
          (sym is_v)
          (subst (λ x. IsTiming u p b (events ++ event_of (c.next + 1) (Some v) ∷ []) x new)
          (sym is_after) timing)

-- what keeps to a universe and a plan that are the same
pub carried : (u v : Universe) (p q : Plan) (b : Beginning) (old new : List Event) (s t : State)
    (before after : List Clock) → u ≡ v → p ≡ q
    → (IsTiming u p b old s before → IsTiming u p b new t after)
    → IsTiming v q b old s before → IsTiming v q b new t after
carried u v p q b old new s t before after same_u same_p =
    λ so. subst (λ x. IsTiming x q b old s before → IsTiming x q b new t after) same_u
    (subst (λ y. IsTiming u y b old s before → IsTiming u y b new t after) same_p so)

-- no more events than the plan has
pub timing-bounded : (u : Universe) (p : Plan) (b : Beginning) (events : List Event) (s : State)
    (clocks : List Clock) → IsTiming u p b events s clocks → IsSafe u p
    → length events ≤ count u p
timing-bounded u p b events s clocks t safe =
    let lanes = map (λ (e : Event). e.lane) events in
    let bound = safe.bounded (t.reached.0 ++ lanes) s (whole_of u p b events s clocks t) in
    let both = length-append t.reached.0 lanes in
    let same = length-map events (λ (e : Event). e.lane) in omega (arith, bound, both, same)
