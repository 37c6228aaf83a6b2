-- A timed run behind an output of a lane.
use Rattle.std.proofs.Common.{◌≡◌, ℕ, ◌+◌, ◌*◌, ◌<◌, ◌≤◌, true, false, inl, inr, List, [], ◌∷◌, ◌++◌, length, map, Some, slice_get, slice_set, get_or, refl, sym, ap, ◌∙◌, subst, arith, length-set, get_or-set_other}
use Rattle.std.specs.Prelude.{if◌then◌else◌, ◌||◌, max}
use Rattle.std.proofs.lemmas.Bool.{false≢true, cases_Bool, cases_lt}
use Rattle.std.proofs.lemmas.List.{map_push, length_push}
use Rattle.std.proofs.lemmas.List.Elements.{All-push}
use Rattle.std.proofs.lemmas.Option.{none-some, slice_get_within}
use Rattle.std.proofs.Math.Bool.{or_assoc, or-false}
use Rattle.std.proofs.lemmas.List.Folds.{list_any-append}
use Rattle.std.specs.List.{list_any}
use Rattle.farm_model.specs.Common.{Universe, same, initial}
use Rattle.farm_model.specs.declared.types.Variant.{Variant}
use Rattle.plan_model.specs.Common.{Plan, lane, instruction_at, LaneState, Gives, turn_of, State, Publication, publication, archive, lane_state, no_state, Moved, step, Run, is_publish}
use Rattle.farm_laws.proofs.Steps.{put_output}
use Rattle.farm_laws.proofs.Places.{PlaceMove, turn_place}
use Rattle.timed_run.specs.Beginning.{Beginning, first_free}
use Rattle.timed_run.specs.declared.clock.Clock.{Clock}
use Rattle.timed_run.specs.declared.event.Event.{Event}
use Rattle.timed_run.specs.Timed.{archive_at, free_at, turn_over, rests, Takes, IsTimed, counts_at, IsNoLater}
use Rattle.timed_run.specs.Clocks.{moment_of, IsPast, IsClock, IsTiming, StaysOver, woken, IsWoken, AreWoken}
use Rattle.timed_run.proofs.Archives.{archive_at-more, at-behind, behind-more, rests-less}
use Rattle.timed_run.proofs.Lists.{all_at, run-more, no-later, AtSet, Same, Other, at_set}
use Rattle.timed_run.proofs.Events.{free_here, free_other, moment_low, all-timed, order-more}

-- a publication more
archive-gives : (u : Universe) (ps : List Publication) (l : ℕ) (v w : Variant)
    → archive u (ps ++ publication l v ∷ []) w ≡ (archive u ps w || same v w)
unfolding archive
archive-gives u ps l v w =
    ap (λ b. initial u w || b)
    (list_any-append (λ (q : Publication). same q.variant w) ps (publication l v ∷ [])
    ∙ ap (λ b. list_any (λ (q : Publication). same q.variant w) ps || b) (or-false (same v w)))
    ∙ sym (or_assoc (initial u w) (list_any (λ (q : Publication). same q.variant w) ps)
    (same v w))

module _ (u : Universe) (p : Plan) (b : Beginning) (events : List Event) (s : State) (clocks : List Clock)
    (t : IsTiming u p b events s clocks) (l : ℕ) (c : Clock) (is : slice_get clocks l ≡ Some c)
    (awake : c.awake ≡ true)
    (first : (k : ℕ) (d : Clock) → slice_get clocks k ≡ Some d → d.awake ≡ true
    → IsNoLater (moment_of p s l c.next) l (moment_of p s k d.next) k) where
  own : IsClock u p b events s t.now t.last l c
  own = t.each l c is

  module _ (next : LaneState) (v : Variant)
      (gives : turn_over u p s l (archive u s.published) ≡ Gives next v)
      (moves : step u p s l ≡ Moved (put_output s l next v)) where
    abbrev after : State
    after = put_output s l next v

    -- it is a publish, which does not look at the archive
    any_gives : (a : Variant → _) → turn_over u p s l a ≡ Gives next v
    any_gives a =
        let move = subst (PlaceMove u (archive u s.published) (lane p l) (lane_state s l)
        (instruction_at p l (lane_state s l).done)) gives
        (turn_place u (archive u s.published) (lane p l) (lane_state s l)
        (instruction_at p l (lane_state s l).done)) in
        ap (turn_of u a (lane p l) (lane_state s l)) move.is
        ∙ (sym (ap (turn_of u (archive u s.published) (lane p l) (lane_state s l)) move.is)
        ∙ gives)

    publishes : is_publish (instruction_at p l (lane_state s l).done) ≡ true
    publishes =
        let move = subst (PlaceMove u (archive u s.published) (lane p l) (lane_state s l)
        (instruction_at p l (lane_state s l).done)) gives
        (turn_place u (archive u s.published) (lane p l) (lane_state s l)
        (instruction_at p l (lane_state s l).done)) in
        ap is_publish move.is

    abbrev pub event : Event
    event = record {
      lane = l;
      place = (lane_state s l).done;
      free = c.free;
      begin = c.next;
      end = c.next + 1;
      output = Some v;
    }

    abbrev pub clock : Clock
    clock = record { free = event.end; next = event.end; awake = true }

    abbrev all : List Event
    all = events ++ event ∷ []

    here : moment_of p s l c.next ≡ 2 * c.next + 2
    here = rw publishes refl

    came : t.now ≤ 2 * c.next + 2
    came = omega (arith, (own.later awake).0, here)

    same_at : (m : ℕ) → m < event.end → archive_at u b all m ≡ archive_at u b events m
    same_at m lt = archive_at-more u b events event m (inr lt)

    timed : IsTimed u p b all events event
    timed = record {
      state = s;
      run = t.run;
      place = refl;
      free = own.free;
      later = own.ahead;
      rested = λ m from to. subst (λ a. rests (turn_over u p s l a) ≡ true)
          (sym (same_at m (omega (arith, to))))
          (own.rested awake m from to);
      takes = subst (Takes event (lane_state s l)) (sym (any_gives (archive_at u b all c.next)))
          (refl, omega arith);
      seen = λ none. absurd (none-some v (sym none));
    }

    -- no event so far comes later
    before : (e : Event) → IsPast t.now t.last e
        → IsNoLater (counts_at e) e.lane (moment_of p s l c.next) l
    before e past = no-later (counts_at e) e.lane t.now t.last (moment_of p s l c.next) l past.2
        (own.later awake)

    module _ (k : ℕ) (d : Clock) (other : k ≡ l → ⊥) (at : slice_get clocks k ≡ Some d) where
      old : IsClock u p b events s t.now t.last k d
      old = t.each k d at

      lanes : lane_state after k ≡ lane_state s k
      lanes = get_or-set_other s.lanes l k next no_state other

      turns : (a : Variant → _) → turn_over u p s k a ≡ turn_over u p after k a
      turns a = ap (λ (st : LaneState). turn_of u a (lane p k) st (instruction_at p k st.done))
          (sym lanes)

      free_still : d.free ≡ free_at (first_free b k) k all
      free_still = old.free ∙ sym (free_other (first_free b k) k events event (λ h. other (sym h)))

      rested_at : (m : ℕ) → m < event.end
          → rests (turn_over u p s k (archive_at u b events m)) ≡ true
          → rests (turn_over u p after k (archive_at u b all m)) ≡ true
      rested_at m lt r = subst (λ turn. rests turn ≡ true)
          (ap (turn_over u p s k) (sym (same_at m lt)) ∙ turns (archive_at u b all m)) r

      up_still : d.awake ≡ true → IsClock u p b all after (moment_of p s l c.next) l k d
      up_still up =
          let moments : moment_of p s k d.next ≡ moment_of p after k d.next =
          ap (λ (st : LaneState). if is_publish (instruction_at p k st.done) then 2 * d.next + 2
          else 2 * d.next + 1) (sym lanes) in
          record {
            free = free_still;
            ahead = old.ahead;
            small = omega (arith, old.small, length_push events event);
            later = λ _. subst (λ m. IsNoLater (moment_of p s l c.next) l m k) moments
                (first k d at up);
            known = λ _. elim (old.known up) [
              | inl same ↦ inl same
              | inr past ↦ inr (omega (arith, past, (own.later awake).0))
            ];
            rested = λ _ m from to. elim (old.known up) [
              | inl same ↦ absurd (omega (arith, same, from, to))
              | inr past ↦ rested_at m (omega (arith, past, came, to)) (old.rested up m from to)
            ];
            asleep = λ down. absurd (false≢true (sym down ∙ up));
          }

      down_still : d.awake ≡ false → StaysOver u p after k v
          → IsClock u p b all after (moment_of p s l c.next) l k d
      down_still down stays = record {
        free = free_still;
        ahead = old.ahead;
        small = omega (arith, old.small, length_push events event);
        later = λ up. absurd (false≢true (sym down ∙ up));
        known = λ up. absurd (false≢true (sym down ∙ up));
        rested = λ up. absurd (false≢true (sym down ∙ up));
        asleep = λ _.
            let there : archive u (s.published ++ publication l v ∷ [])
            ≡ (λ w. archive u s.published w || same v w) =
            λ i w. archive-gives u s.published l v w i in
            subst (λ a. rests (turn_over u p after k a) ≡ true) (sym there)
            (stays (archive u s.published)
            (subst (λ turn. rests turn ≡ true) (turns (archive u s.published)) (old.asleep down)));
      }

      was_behind : d.awake ≡ false → (m : ℕ)
          → rests (turn_over u p s k (archive_at u b events m)) ≡ true
      was_behind down m = rests-less u (archive u s.published) (archive_at u b events m) (lane p k)
          (lane_state s k) (instruction_at p k (lane_state s k).done)
          (λ w h. t.made w ∙ at-behind u b events m w h) (old.asleep down)

      tried_again : d.awake ≡ false
          → IsClock u p b all after (moment_of p s l c.next) l k (woken d event.end)
      tried_again down = record {
        free = free_still;
        ahead = omega arith;
        small = omega (arith, old.small, old.ahead, own.small, length_push events event);
        later = λ _.
            let low = moment_low p after k (max d.free event.end) in (
              omega (arith, here, low),
              λ same. absurd (omega (arith, here, low, same)),
            );
        known = λ _. elim (cases_lt d.free event.end) [
          | inl lt ↦ inr (omega (arith, lt, here))
          | inr ge ↦ inl (omega (arith, ge))
        ];
        rested = λ _ m from to. rested_at m (omega (arith, from, to)) (was_behind down m);
        asleep = λ no. absurd (false≢true (sym no));
      }

    mine : IsClock u p b all after (moment_of p s l c.next) l l clock
    mine = record {
      free = sym (free_here (first_free b l) l events event refl);
      ahead = omega arith;
      small = omega (arith, own.small, length_push events event);
      later = λ up. (omega (arith, here, moment_low p after l event.end), λ same. omega arith);
      known = λ up. inl refl;
      rested = λ up m from to. absurd (omega (arith, from, to));
      asleep = λ down. absurd (false≢true (sym down));
    }

    abbrev Is : ℕ → Clock → Type 0
    Is k d = IsClock u p b all after (moment_of p s l c.next) l k d

    pub timing-gives : (new : List Clock) (n : ℕ) → length clocks ≤ n
        → AreWoken u p after v event.end n (slice_set clocks l clock) new
        → IsTiming u p b all after new
    timing-gives new n enough wakes = record {
      reached = t.reached;
      now = moment_of p s l c.next;
      last = l;
      run = subst (λ ls. Run u p b.state ls after)
          (sym (map_push (λ (e : Event). e.lane) events event))
          (run-more u p (map (λ (e : Event). e.lane) events) b.state s after l t.run moves);
      made = λ w. archive-gives u s.published l v w
          ∙ (ap (λ y. y || same v w) (t.made w) ∙ sym (behind-more u b events event w));
      past = All-push (IsPast (moment_of p s l c.next) l) events event
          (λ k d lt. let old = t.past k d lt in (
            omega (arith, old.0, (own.later awake).0),
            λ w e. omega (arith, old.1 w e, (own.later awake).0),
            before (get_or events k d) old,
          )) (
            omega (arith, here),
            λ w e. omega (arith, here),
            (omega (arith, here), λ same. omega arith),
          );
      timed = all-timed u p b events event (λ k e at m le. inr (begun k e at m le)) t.timed timed;
      ordered = order-more events event
          (λ k e at. subst (λ m. IsNoLater (counts_at e) e.lane m l) counts
          (before e (all_at (IsPast t.now t.last) events t.past k e at))) t.ordered;
      long = wakes.long ∙ (length-set clocks l clock ∙ t.long);
      each = λ k d at. woke k d (wakes.each k d at);
    }
      where
        counts : moment_of p s l c.next ≡ counts_at event
        counts = omega (arith, here)

        begun : (k : ℕ) (e : Event) → slice_get events k ≡ Some e → (m : ℕ) → m ≤ e.begin
            → m < event.end
        begun k e at m le =
            let past : IsPast t.now t.last e =
            all_at (IsPast t.now t.last) events t.past k e at in
            omega (arith, past.0, came, le)

        with_old : (k : ℕ) (d x : Clock) → (k ≡ l → ⊥) → slice_get clocks k ≡ Some d
            → IsWoken u p after v event.end k d x → Is k x
        with_old k d x other at (inl (same, why)) =
            subst (Is k) (sym same) (elim (cases_Bool d.awake) [
              | inl up ↦ up_still k d other at up
              | inr down ↦ elim why [
                | inl up ↦ up_still k d other at up
                | inr stays ↦ down_still k d other at down stays
              ]
            ])
        with_old k d x other at (inr (down, wake)) =
            subst (Is k) (sym wake) (tried_again k d other at down)

        own_woken : (k : ℕ) (d x : Clock) → IsWoken u p after v event.end k d x → k ≡ l
            → clock ≡ d → Is k x
        own_woken k d x (inl (same, why)) at_l new =
            subst (λ i. Is i x) (sym at_l) (subst (Is l) (new ∙ sym same) mine)
        own_woken k d x (inr (down, wake)) at_l new =
            absurd (false≢true (sym down ∙ ap (λ (e : Clock). e.awake) (sym new)))

        within : (k : ℕ) (d : Clock) → slice_get (slice_set clocks l clock) k ≡ Some d → k < n
        within k d at = omega (
          arith,
          slice_get_within (slice_set clocks l clock) k d at,
          length-set clocks l clock,
          enough,
        )

        by : (k : ℕ) (d x : Clock) → IsWoken u p after v event.end k d x
            → AtSet clocks l clock k d → Is k x
        by k d x w (Same same new) = own_woken k d x w same new
        by k d x w (Other other at) = with_old k d x other at w

        woke : (k : ℕ) (x : Clock) → (d : Clock) × (slice_get (slice_set clocks l clock) k ≡ Some d)
            × (k < n → IsWoken u p after v event.end k d x) × (n ≤ k → x ≡ d) → Is k x
        woke k x (d, at, early, late) =
            by k d x (early (within k d at)) (at_set clocks l clock k d at)
