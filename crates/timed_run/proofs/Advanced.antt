-- A timed run that goes on by an event, and one that has ended.
use Rattle.std.proofs.Common.{◌≡◌, ℕ, ◌+◌, ◌-◌, ◌^◌, ◌<◌, ◌≤◌, true, false, List, [], ◌∷◌, ◌++◌, length, map, Option, Some, None, slice_get, slice_set, get_or, refl, sym, ap, ◌∙◌, subst, arith, length-set}
use Rattle.std.specs.Prelude.{◌≢◌}
use Rattle.std.specs.Option.{option_map}
use Rattle.std.proofs.lemmas.Option.{none-some, same_Some, slice_get_read, slice_get_within}
use Rattle.farm_model.specs.Universe.{Universe}
use Rattle.farm_model.specs.declared.types.Trap.{Trap}
use Rattle.farm_model.specs.declared.types.Variant.{Variant}
use Rattle.plan_model.specs.Common.{Plan, count, IsSafe, Publication, State, lane_state, Moved, Trapped, step, IsSound}
use Rattle.timed_run.specs.Beginning.{Beginning}
use Rattle.timed_run.specs.declared.clock.Clock.{Clock}
use Rattle.timed_run.specs.declared.event.Event.{Event}
use Rattle.timed_run.specs.Clocks.{moment_of, IsTiming, IsFirst, FoundTo, AreWoken, work_left}
use Rattle.timed_run.specs.Timed.{IsNoLater, IsTimedRun}
use Rattle.timed_run.proofs.Begins.{timing-ends}
use Rattle.timed_run.proofs.Ends.{reached-by}
use Rattle.timed_run.proofs.Moves.{whole_of, unmoved_rests, moves-plain, moves-gives, timing-bounded}
use Rattle.timed_run.proofs.Plays.{plays}
use Rattle.timed_run.proofs.Rests.{timing-rests}
use Rattle.timed_run.proofs.Work.{work-less, work-rests}
use Rattle.timed_run.specs.Ended.{IsEnded, IsLastFree, IsLastEnd}

module _ (u : Universe) (p : Plan) (b : Beginning) (sound : IsSound u p) (safe : IsSafe u p)
    (events : List Event) (s : State) (clocks : List Clock) (t : IsTiming u p b events s clocks)
  where
    -- there is time enough
    pub room : count u p < 2 ^ 64 → (l : ℕ) (c : Clock) → slice_get clocks l ≡ Some c
        → c.next + 2 ^ 64 ≤ 2 ^ 128
    room few l c at =
        let bound = timing-bounded u p b events s clocks t safe in
        let small = (t.each l c at).small in omega (arith, few, bound, small)

    -- no lane meets a trap
    pub free : (l : ℕ) (trap : Trap) → step u p s l ≢ Trapped trap
    free = safe.no_trap (t.reached.0 ++ map (λ (e : Event). e.lane) events) s
        (whole_of u p b events s clocks t)

    -- no lane is awake
    pub ended-all : FoundTo p s clocks (length clocks) None → IsEnded u p b events
    ended-all none = record {
      last = s;
      run = t.run;
      finished = timing-ends u p b events s clocks t safe
          (λ l c at. none l c (slice_get_within clocks l c at) at);
      timed = t.timed;
      ordered = t.ordered;
    }

    module _ (l : ℕ) (f : IsFirst p s clocks l (length clocks)) (c : Clock)
        (is : c ≡ get_or clocks l c) where
      same_clock : f.clock ≡ c
      same_clock = same_Some f.clock c (sym f.is ∙ read)
        where
          read : slice_get clocks l ≡ Some c
          read = slice_get_read clocks (length clocks) l c refl f.within is

      pub at : slice_get clocks l ≡ Some c
      at = f.is ∙ ap Some same_clock

      awake : c.awake ≡ true
      awake = ap (λ (x : Clock). x.awake) (sym same_clock) ∙ f.awake

      first : (k : ℕ) (d : Clock) → slice_get clocks k ≡ Some d → d.awake ≡ true
          → IsNoLater (moment_of p s l c.next) l (moment_of p s k d.next) k
      first k d there up = subst (λ (x : Clock). IsNoLater (moment_of p s l x.next) l
          (moment_of p s k d.next) k) same_clock
          (f.first k d (slice_get_within clocks k d there) there up)

      in_plan : l < length p
      in_plan = omega (arith, f.within, t.long)

      abbrev asleep : Clock
      asleep = record { free = c.free; next = c.next; awake = false }

      pub sleeps : (after : State) → after ≡ s
          → ((next : State) → step u p s l ≡ Moved next → ⊥)
          → IsTiming u p b events after (slice_set clocks l asleep)
      sleeps after stays unmoved =
          subst (λ x. IsTiming u p b events x (slice_set clocks l asleep)) (sym stays)
          (timing-rests u p b events s clocks t l c at
          (unmoved_rests u p s l in_plan (free l) unmoved))

      pub sleeps-less : work_left (count u p) events (slice_set clocks l asleep)
          < work_left (count u p) events clocks
      sleeps-less = work-rests (count u p) events clocks l c asleep at awake refl

      -- the run goes on by this event
      module _ (after : State) (moves : step u p s l ≡ Moved after) (published place end cost : ℕ)
          (is_published : published ≡ length s.published)
          (is_place : place ≡ (lane_state s l).done)
          (is_cost : cost ≡ (lane_state after l).spent - (lane_state s l).spent)
          (short : cost < 2 ^ 64) (output : Option Variant)
          (is_output : output ≡ option_map (λ (q : Publication). q.variant)
          (slice_get after.published published)) where
        abbrev event : Event
        event = record {
          lane = l;
          place = place;
          free = c.free;
          begin = c.next;
          end = end;
          output = output;
        }

        abbrev clock : Clock
        clock = record { free = end; next = end; awake = true }

        told : (o : Option Publication) → slice_get after.published (length s.published) ≡ o
            → output ≡ option_map (λ (q : Publication). q.variant) o
        told o e = is_output ∙ (ap (λ n. option_map (λ (q : Publication). q.variant)
            (slice_get after.published n)) is_published
            ∙ ap (option_map (λ (q : Publication). q.variant)) e)

        goes-by : (o : Option Publication) → slice_get after.published (length s.published) ≡ o
            → output ≡ None → end ≡ c.next + cost
            → IsTiming u p b (events ++ event ∷ []) after (slice_set clocks l clock)
        goes-by (Some q) e none is_end = absurd (none-some q.variant (sym none ∙ told (Some q) e))
        goes-by None e none is_end =
            rw (is_place, none) (moves-plain u p b sound events s clocks t l c at f.within awake first
            after moves e (omega (arith, is_cost, short)) end
            (is_end ∙ ap (λ n. c.next + n) is_cost))

        pub goes : output ≡ None → end ≡ c.next + cost
            → IsTiming u p b (events ++ event ∷ []) after (slice_set clocks l clock)
        goes = goes-by (slice_get after.published (length s.published)) refl

        gives-by : (o : Option Publication) → slice_get after.published (length s.published) ≡ o
            → (v : Variant) → output ≡ Some v → end ≡ c.next + 1 → (new : List Clock)
            → AreWoken u p after v end (length (slice_set clocks l clock)) (slice_set clocks l clock)
            new → IsTiming u p b (events ++ event ∷ []) after new
        gives-by None e v some is_end new woken =
            absurd (none-some v (sym (told None e) ∙ some))
        gives-by (Some q) e v some is_end new woken =
            let same : q.variant ≡ v = same_Some q.variant v (sym (told (Some q) e) ∙ some) in
            rw (is_place, told (Some q) e, is_end)
            (moves-gives u p b sound events s clocks t l c at f.within awake first after moves q e new
            (length clocks) (omega arith)
            (subst (λ w. AreWoken u p after w (c.next + 1) (length clocks)
            (slice_set clocks l (record { free = c.next + 1; next = c.next + 1; awake = true })) new)
            (sym same)
            (subst (λ n. AreWoken u p after v n (length clocks)
            (slice_set clocks l (record { free = n; next = n; awake = true })) new) is_end
            (rw (length-set clocks l clock) at woken))))

        pub gives : (v : Variant) → output ≡ Some v → end ≡ c.next + 1 → (new : List Clock)
            → AreWoken u p after v end (length (slice_set clocks l clock)) (slice_set clocks l clock)
            new → IsTiming u p b (events ++ event ∷ []) after new
        gives = gives-by (slice_get after.published (length s.published)) refl

        pub goes-to : (more : List Event) → more ≡ events ++ event ∷ [] → output ≡ None
            → end ≡ c.next + cost → IsTiming u p b more after (slice_set clocks l clock)
        goes-to more pushed none is_end =
            subst (λ es. IsTiming u p b es after (slice_set clocks l clock)) (sym pushed)
            (goes none is_end)

        pub gives-to : (more : List Event) → more ≡ events ++ event ∷ [] → (v : Variant)
            → output ≡ Some v → end ≡ c.next + 1 → (new : List Clock) (u' : Universe) (p' : Plan)
            → u' ≡ u → p' ≡ p
            → AreWoken u' p' after v end (length (slice_set clocks l clock))
            (slice_set clocks l clock) new → IsTiming u p b more after new
        gives-to more pushed v some is_end new u' p' same_u same_p woken =
            subst (λ es. IsTiming u p b es after new) (sym pushed)
            (gives v some is_end new
            (subst (λ x. AreWoken x p after v end (length (slice_set clocks l clock))
            (slice_set clocks l clock) new) same_u
            (subst (λ x. AreWoken u' x after v end (length (slice_set clocks l clock))
            (slice_set clocks l clock) new) same_p woken)))

-- an event more leaves less to be tried
pub less : (u : Universe) (p : Plan) (b : Beginning) (safe : IsSafe u p) (events more : List Event) (s after : State)
    (clocks new : List Clock) → IsTiming u p b events s clocks → IsTiming u p b more after new
    → length more ≡ length events + 1
    → work_left (count u p) more new < work_left (count u p) events clocks
less u p b safe events more s after clocks new t m longer =
    work-less (count u p) events more clocks new longer
    (timing-bounded u p b more after new m safe) (m.long ∙ sym t.long)

-- all in one, where the last lane is free at this time at first
pub timed : (u : Universe) (p : Plan) (b : Beginning) (events : List Event) (first end : ℕ)
    → IsEnded u p b events → IsLastFree b.free first → IsLastEnd first events end
    → IsTimedRun u p b events end
timed u p b events first end e free ends = record {
  last = e.last;
  run = e.run;
  finished = e.finished;
  schedule = plays u p 1 b.state e.last (map (λ (x : Event). x.lane) events) e.run;
  timed = e.timed;
  ordered = e.ordered;
  greatest = ends.greatest;
  free = λ k d lt. let within = free.greatest k d lt in omega (arith, within, ends.later);
  reached = reached-by b events first end free ends;
}
