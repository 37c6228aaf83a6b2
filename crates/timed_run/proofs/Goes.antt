-- A timed run behind an instruction of a lane.
use Rattle.std.proofs.Common.{◌≡◌, ℕ, ◌+◌, ◌-◌, ◌*◌, ◌^◌, ◌<◌, ◌≤◌, true, false, inl, inr, List, [], ◌∷◌, ◌++◌, map, Some, None, slice_get, slice_set, get_or, refl, sym, ap, ◌∙◌, subst, arith, length-set, get_or-set_other}
use Rattle.std.specs.Prelude.{if◌then◌else◌}
use Rattle.std.proofs.lemmas.Bool.{false≢true}
use Rattle.std.proofs.lemmas.List.{map_push, length_push}
use Rattle.std.proofs.lemmas.List.Elements.{All-push}
use Rattle.std.proofs.lemmas.Option.{none-some}
use Rattle.std.proofs.Math.Bool.{or-false}
use Rattle.farm_model.specs.Universe.{Universe}
use Rattle.farm_model.specs.declared.types.Variant.{Variant}
use Rattle.plan_model.specs.Common.{Plan, lane, instruction_at, LaneState, Goes, turn_of, State, archive, lane_state, no_state, Moved, step, Run, is_publish}
use Rattle.plan_model.specs.declared.instructions.Instruction.{Instruction}
use Rattle.plan_model.specs.declared.instructions.Instruction.TheVariants.{Unpack, Configure, Deconfigure, Remove, Build, Publish, Wait, When, Otherwise, EndWhen}
use Rattle.farm_laws.proofs.Steps.{put}
use Rattle.farm_laws.proofs.Places.{PlaceMove, IsQuiet, turn_place}
use Rattle.timed_run.specs.Beginning.{Beginning, first_free}
use Rattle.timed_run.specs.declared.clock.Clock.{Clock}
use Rattle.timed_run.specs.declared.event.Event.{Event}
use Rattle.timed_run.specs.Timed.{archive_at, turn_over, rests, Takes, IsTimed, counts_at, IsNoLater}
use Rattle.timed_run.specs.Clocks.{moment_of, IsPast, archive_behind, IsClock, IsTiming}
use Rattle.timed_run.proofs.Archives.{archive_at-more, at-now, behind-more}
use Rattle.timed_run.proofs.Lists.{run-more, no-later, all_at, AtSet, Same, Other, at_set}
use Rattle.timed_run.proofs.Events.{free_here, free_other, moment_low, all-timed, order-more}

-- what goes on is no publish
quiet-plain : (u : Universe) (there : Variant → _) (x : Instruction) → IsQuiet u there x
    → is_publish (Some x) ≡ false
quiet-plain u there (Publish r) q = absurd q
quiet-plain u there (Unpack name wanted) q = refl
quiet-plain u there (Configure members) q = refl
quiet-plain u there (Deconfigure members) q = refl
quiet-plain u there (Remove members) q = refl
quiet-plain u there (Build r) q = refl
quiet-plain u there (Wait e) q = refl
quiet-plain u there (When name wanted) q = refl
quiet-plain u there Otherwise q = refl
quiet-plain u there EndWhen q = refl

module _ (u : Universe) (p : Plan) (b : Beginning) (events : List Event) (s : State) (clocks : List Clock)
    (t : IsTiming u p b events s clocks) (l : ℕ) (c : Clock) (is : slice_get clocks l ≡ Some c)
    (awake : c.awake ≡ true)
    (first : (k : ℕ) (d : Clock) → slice_get clocks k ≡ Some d → d.awake ≡ true
    → IsNoLater (moment_of p s l c.next) l (moment_of p s k d.next) k) where
  own : IsClock u p b events s t.now t.last l c
  own = t.each l c is

  module _ (next : LaneState) (goes : turn_over u p s l (archive u s.published) ≡ Goes next)
      (moves : step u p s l ≡ Moved (put s l next)) (short : next.spent - (lane_state s l).spent < 2 ^ 64) where
    plain : is_publish (instruction_at p l (lane_state s l).done) ≡ false
    plain =
        let move = subst (PlaceMove u (archive u s.published) (lane p l) (lane_state s l)
        (instruction_at p l (lane_state s l).done)) goes
        (turn_place u (archive u s.published) (lane p l) (lane_state s l)
        (instruction_at p l (lane_state s l).done)) in
        ap is_publish move.is ∙ quiet-plain u (archive u s.published) move.instruction move.quiet

    abbrev pub event : Event
    event = record {
      lane = l;
      place = (lane_state s l).done;
      free = c.free;
      begin = c.next;
      end = c.next + (next.spent - (lane_state s l).spent);
      output = None;
    }

    abbrev pub clock : Clock
    clock = record { free = event.end; next = event.end; awake = true }

    abbrev all : List Event
    all = events ++ event ∷ []

    here : moment_of p s l c.next ≡ 2 * c.next + 1
    here = rw plain refl

    late : t.now ≤ 2 * c.next + 1
    late = omega (arith, (own.later awake).0, here)

    same_at : (m : ℕ) → archive_at u b all m ≡ archive_at u b events m
    same_at m = archive_at-more u b events event m (inl refl)

    there : archive_at u b all c.next ≡ archive u s.published
    there = same_at c.next
        ∙ (at-now u b t.now t.last c.next events t.past late ∙ (λ i v. sym (t.made v) i))

    timed : IsTimed u p b all events event
    timed = record {
      state = s;
      run = t.run;
      place = refl;
      free = own.free;
      later = own.ahead;
      rested = λ m from to. subst (λ a. rests (turn_over u p s l a) ≡ true) (sym (same_at m))
          (own.rested awake m from to);
      takes =
          let is_turn : turn_over u p s l (archive_at u b all c.next) ≡ Goes next =
          ap (turn_over u p s l) there ∙ goes in
          subst (Takes event (lane_state s l)) (sym is_turn) (refl, refl);
      seen = λ none v. ap (λ (a : Variant → _). a v) (sym there);
    }

    -- no event so far comes later
    before : (e : Event) → IsPast t.now t.last e
        → IsNoLater (counts_at e) e.lane (moment_of p s l c.next) l
    before e past = no-later (counts_at e) e.lane t.now t.last (moment_of p s l c.next) l past.2
        (own.later awake)

    others : (k : ℕ) (d : Clock) → (k ≡ l → ⊥) → slice_get clocks k ≡ Some d
        → IsClock u p b all (put s l next) (moment_of p s l c.next) l k d
    others k d other at =
        let old = t.each k d at in
        let lanes : lane_state (put s l next) k ≡ lane_state s k =
        get_or-set_other s.lanes l k next no_state other in
        let turns : (a : Variant → _)
        → turn_over u p s k a ≡ turn_over u p (put s l next) k a =
        λ a. ap (λ (st : LaneState). turn_of u a (lane p k) st (instruction_at p k st.done))
        (sym lanes) in
        let moments : moment_of p s k d.next ≡ moment_of p (put s l next) k d.next =
        ap (λ (st : LaneState). if is_publish (instruction_at p k st.done) then 2 * d.next + 2
        else 2 * d.next + 1) (sym lanes) in
        record {
          free = old.free ∙ sym (free_other (first_free b k) k events event (λ h. other (sym h)));
          ahead = old.ahead;
          small = omega (arith, old.small, length_push events event);
          later = λ up. subst (λ m. IsNoLater (moment_of p s l c.next) l m k) moments
              (first k d at up);
          known = λ up. elim (old.known up) [
            | inl same ↦ inl same
            | inr came ↦ inr (omega (arith, came, (own.later awake).0))
          ];
          rested = λ up m from to. subst (λ turn. rests turn ≡ true)
              (ap (turn_over u p s k) (sym (same_at m)) ∙ turns (archive_at u b all m))
              (old.rested up m from to);
          asleep = λ down. subst (λ turn. rests turn ≡ true) (turns (archive u s.published))
              (old.asleep down);
        }

    mine : IsClock u p b all (put s l next) (moment_of p s l c.next) l l clock
    mine = record {
      free = sym (free_here (first_free b l) l events event refl);
      ahead = omega arith;
      small = omega (arith, own.small, short, length_push events event);
      later = λ up. (
        omega (arith, here, moment_low p (put s l next) l event.end),
        λ same. omega arith,
      );
      known = λ up. inl refl;
      rested = λ up m from to. absurd (omega (arith, from, to));
      asleep = λ down. absurd (false≢true (sym down));
    }

    pub timing-goes : IsTiming u p b all (put s l next) (slice_set clocks l clock)
    timing-goes = record {
      reached = t.reached;
      now = moment_of p s l c.next;
      last = l;
      run = subst (λ ls. Run u p b.state ls (put s l next))
          (sym (map_push (λ (e : Event). e.lane) events event))
          (run-more u p (map (λ (e : Event). e.lane) events) b.state s (put s l next) l t.run moves);
      made = λ v. t.made v ∙ sym (behind-more u b events event v
          ∙ or-false (archive_behind u b events v));
      past = All-push (IsPast (moment_of p s l c.next) l) events event
          (λ k d lt. let old = t.past k d lt in (
            omega (arith, old.0, (own.later awake).0),
            λ v e. omega (arith, old.1 v e, (own.later awake).0),
            before (get_or events k d) old,
          )) (
            omega (arith, here),
            λ v e. absurd (none-some v e),
            (omega (arith, here), λ same. omega arith),
          );
      timed = all-timed u p b events event (λ k e at m le. inl refl) t.timed timed;
      ordered = order-more events event
          (λ k e at. subst (λ m. IsNoLater (counts_at e) e.lane m l) here
          (before e (all_at (IsPast t.now t.last) events t.past k e at))) t.ordered;
      long = length-set clocks l clock ∙ t.long;
      each = λ k d at. by k d (at_set clocks l clock k d at);
    }
      where
        by : (k : ℕ) (d : Clock) → AtSet clocks l clock k d
            → IsClock u p b all (put s l next) (moment_of p s l c.next) l k d
        by k d (Same same new) =
            subst (λ n. IsClock u p b all (put s l next) (moment_of p s l c.next) l n d) (sym same)
            (subst (IsClock u p b all (put s l next) (moment_of p s l c.next) l l) new mine)
        by k d (Other other at) = others k d other at
