-- What a turn of a lane makes of a farm at work, by its number in the plan.
use Rattle.std.proofs.Common.{◌≡◌, ℕ, zero, suc, ◌+◌, ◌<◌, ◌≤◌, inl, inr, List, [], ◌∷◌, ◌++◌, length, map, Some, slice_get, slice_set, refl, sym, ap, ◌∙◌, subst, arith, length-set, length-append, get_or, get_or-set_same}
use Rattle.std.specs.Prelude.{◌≢◌, nat_lt}
use Rattle.std.proofs.lemmas.Bool.{cond-true, lt-ltb, cases_eq}
use Rattle.std.proofs.lemmas.List.{map-set, map_push, get_or-map, set-get_or}
use Rattle.std.proofs.lemmas.Option.{same_Some, slice_get_within, slice_get-get_or, slice_get_read, get_or_from_slice_get}
use Rattle.farm_model.specs.Common.{Universe, has_bit, outputs, IsKnown}
use Rattle.farm_model.specs.declared.types.Variant.{Variant}
use Rattle.farm_model.specs.declared.types.Trap.{Trap}
use Rattle.farm_universe.proofs.ListFacts.{All-slice_get}
use Rattle.farm_universe.proofs.PlaceLaws.{named}
use Rattle.plan_model.specs.Common.{Lane, Plan, lane, instruction_at, LaneState, turn_of, State, publication, archive, lane_state, no_state, outcome, step}
use Rattle.plan_model.specs.Turn as turn
use Rattle.plan_model.specs.Run as run
use Rattle.farm_laws.proofs.Places.{PlaceMove, turn_place}
use Rattle.farm_laws.specs.EventsLeft.{InPlaces, left_in}
use Rattle.farm_laws.proofs.EventsLeft.{step_places}
use Rattle.farm_archive.specs.declared.publication.Publication.{Publication}
use Rattle.farm_archive.specs.Kept.{Kept, with_publication, IsArchive}
use Rattle.farm_archive.proofs.Published.{archive-published}
use Rattle.farm_core.specs.Lanes.{shown, IsRun}
use Rattle.farm_core.specs.Turns.{IsTurn}
use Rattle.farm_core.specs.Farm.{state_of, published_in, step_told, state_after, IsAsleep, IsCore}
use Rattle.farm_core.specs.Steps.{IsStepped}
use Rattle.farm_core.specs.declared.answer.Step.TheVariants.{Moved, Blocked, Finished, Trapped}
use Rattle.farm_core.specs.declared.lane.LaneRun.{LaneRun}
use Rattle.farm_core.specs.declared.turn.Turn.{Turn}
use Rattle.farm_core.specs.declared.turn.Turn.TheVariants.{Goes, Gives, Waits, Ends, Fails}

slice_get-set_other : {X : Type 0} (xs : List X) (i k : ℕ) (y : X) → (k ≡ i → ⊥)
    → slice_get (slice_set xs i y) k ≡ slice_get xs k
slice_get-set_other [] i k y other = refl
slice_get-set_other (x ∷ xs) zero zero y other = absurd (other refl)
slice_get-set_other (x ∷ xs) zero (suc k) y other = refl
slice_get-set_other (x ∷ xs) (suc i) zero y other = refl
slice_get-set_other (x ∷ xs) (suc i) (suc k) y other =
    slice_get-set_other xs i k y (λ e. other (ap suc e))

slice_get-set_same : {X : Type 0} (xs : List X) (i : ℕ) (y : X) → i < length xs
    → slice_get (slice_set xs i y) i ≡ Some y
slice_get-set_same xs i y lt =
    slice_get-get_or (slice_set xs i y) i y (omega (arith, length-set xs i y))
    ∙ ap Some (get_or-set_same xs i y y lt)

-- a lane that was read from the list
pub read : (lanes : List LaneRun) (l : ℕ) (r : LaneRun) → l < length lanes → r ≡ get_or lanes l r
    → slice_get lanes l ≡ Some r
read lanes l r lt is = slice_get_read lanes (length lanes) l r refl lt is

module _ (u : Universe) (p : Plan) (lanes : List LaneRun) (kept : Kept)
    (core : IsCore u p lanes kept) (l : ℕ) (r : LaneRun) (is : slice_get lanes l ≡ Some r) where
  here : l < length lanes
  here = slice_get_within lanes l r is

  pub lane_shown : lane_state (state_of lanes kept) l ≡ shown r
  lane_shown = get_or-map shown lanes l r no_state here
      ∙ ap shown (get_or_from_slice_get lanes l r r is)

  abbrev pub turn_here : turn.Turn
  turn_here = turn_of u (has_bit kept.words) (lane p l) (shown r)
      (slice_get (lane p l).instructions r.done)

  -- the turn of the lane, as its number in the plan tells it
  pub in_lane : (of : Lane) → of ≡ lane p l → (new : LaneRun) (answer : Turn)
      → IsTurn u of r new answer
      (turn_of u (has_bit kept.words) of (shown r) (slice_get of.instructions r.done))
      → IsTurn u (lane p l) r new answer turn_here
  in_lane of e new answer t =
      subst (λ (o : Lane). IsTurn u o r new answer
      (turn_of u (has_bit kept.words) o (shown r) (slice_get o.instructions r.done))) e t

  -- the step is the turn that the lane takes over the words of the archive
  step_is : step u p (state_of lanes kept) l ≡ outcome (state_of lanes kept) l turn_here
  unfolding step
  step_is =
      let s : State = state_of lanes kept in
      let words : archive u (published_in kept.history) ≡ has_bit kept.words =
      λ i v. core.archive.words v i in
      let there : l < length p = omega (arith, here, core.long) in
      cond-true (nat_lt l (length p)) _ run.Unknown (lt-ltb l (length p) there)
      ∙ (ap (λ (has : Variant → _). outcome s l (turn_of u has (lane p l) (lane_state s l)
      (instruction_at p l (lane_state s l).done))) words
      ∙ ap (λ (st : LaneState). outcome s l (turn_of u (has_bit kept.words) (lane p l) st
      (instruction_at p l st.done))) lane_shown)

  -- a step that meets no trap is a turn that meets none
  pub turn_free : ((trap : Trap) → step u p (state_of lanes kept) l ≢ run.Trapped trap)
      → (trap : Trap) → turn_here ≢ turn.Fails trap
  turn_free free trap fails = free trap (step_is ∙ ap (outcome (state_of lanes kept) l) fails)

  each_put : (new : LaneRun) → IsRun u (lane p l) new → (k : ℕ) (x : LaneRun)
      → slice_get (slice_set lanes l new) k ≡ Some x → IsRun u (lane p k) x
  each_put new ok k x e =
      elim (cases_eq k l) [
        | inl same ↦
            let at : slice_get (slice_set lanes l new) l ≡ Some x =
            subst (λ n. slice_get (slice_set lanes l new) n ≡ Some x) same e in
            let is_new : new ≡ x =
            same_Some new x (sym (slice_get-set_same lanes l new here) ∙ at) in
            subst (λ n. IsRun u (lane p n) x) (sym same) (subst (IsRun u (lane p l)) is_new ok)
        | inr other ↦ core.each k x (sym (slice_get-set_other lanes l k new other) ∙ e)
      ]

  asleep_put : (new : LaneRun) (next : Kept) → IsAsleep u p next l new
      → ((k : ℕ) (x : LaneRun) → IsAsleep u p kept k x → IsAsleep u p next k x) → (k : ℕ)
      (x : LaneRun) → slice_get (slice_set lanes l new) k ≡ Some x → IsAsleep u p next k x
  asleep_put new next ok others k x e =
      elim (cases_eq k l) [
        | inl same ↦
            let at : slice_get (slice_set lanes l new) l ≡ Some x =
            subst (λ n. slice_get (slice_set lanes l new) n ≡ Some x) same e in
            let is_new : new ≡ x =
            same_Some new x (sym (slice_get-set_same lanes l new here) ∙ at) in
            subst (λ n. IsAsleep u p next n x) (sym same) (subst (IsAsleep u p next l) is_new ok)
        | inr other ↦
            others k x (core.asleep k x (sym (slice_get-set_other lanes l k new other) ∙ e))
      ]

  -- a lane that was not found waiting with these publications
  awake : (next : Kept) (k : ℕ) (x : LaneRun) → x.waited ≤ length next.history
      → IsAsleep u p next k x
  awake next k x few = record {
    within = omega (arith, few);
    waits = λ same. absurd (omega (arith, few, same));
  }

  -- a step that moves to this state leaves at least one event less
  module _ (new : LaneRun) (ok : IsRun u (lane p l) new) (next : Kept)
      (moved : step u p (state_of lanes kept) l
      ≡ run.Moved (state_of (slice_set lanes l new) next)) where
    less : suc (left_in u p (state_of (slice_set lanes l new) next))
        ≤ left_in u p (state_of lanes kept)
    less = (step_places u p core.sound (state_of lanes kept)
        (state_of (slice_set lanes l new) next) l core.places moved).1

    stepped : IsArchive u (published_in next.history) next → next.room ≡ kept.room
        → length next.history ≤ suc (length kept.history) → new.waited ≤ length next.history
        → ((k : ℕ) (x : LaneRun) → IsAsleep u p kept k x → IsAsleep u p next k x)
        → IsStepped u p l lanes kept (slice_set lanes l new) next Moved
    stepped has room more few others = record {
      core = record {
        sound = core.sound;
        long = length-set lanes l new ∙ core.long;
        each = each_put new ok;
        asleep = asleep_put new next (awake next l new few) others;
        archive = has;
        places = (step_places u p core.sound (state_of lanes kept)
            (state_of (slice_set lanes l new) next) l core.places moved).0;
        room = omega (arith, core.room, less, room, more);
      };
      is_told = ap step_told (sym moved);
      is_after = ap (state_after (state_of lanes kept)) (sym moved);
    }

  -- the lane goes on
  pub goes : (new : LaneRun) → IsTurn u (lane p l) r new Goes turn_here
      → r.waited ≤ length kept.history
      → IsStepped u p l lanes kept (slice_set lanes l new) kept Moved
  goes new t few =
      stepped new t.run kept
      (step_is
      ∙ (ap (outcome (state_of lanes kept) l) t.told
      ∙ ap (λ xs. run.Moved (record { lanes = xs; published = published_in kept.history }))
      (sym (map-set shown lanes l new))))
      core.archive refl (omega arith) (omega (arith, few, t.waited)) (λ k x a. a)

  published_more : (v : Variant) → published_in (with_publication kept l v).history
      ≡ published_in kept.history ++ publication l v ∷ []
  published_more v = map_push (λ (q : Publication). publication q.lane q.variant) kept.history _

  gives_moved : (new : LaneRun) (v : Variant) → IsTurn u (lane p l) r new (Gives v) turn_here
      → step u p (state_of lanes kept) l
      ≡ run.Moved (state_of (slice_set lanes l new) (with_publication kept l v))
  gives_moved new v t =
      step_is
      ∙ (ap (outcome (state_of lanes kept) l) t.told
      ∙ (ap (λ xs. run.Moved
      (record { lanes = xs; published = published_in kept.history ++ publication l v ∷ [] }))
      (sym (map-set shown lanes l new))
      ∙ ap (λ ps. run.Moved (record { lanes = map shown (slice_set lanes l new); published = ps }))
      (sym (published_more v))))

  -- there is room for an output
  pub room_there : (new : LaneRun) (v : Variant)
      → IsTurn u (lane p l) r new (Gives v) turn_here → length kept.history < kept.room
  room_there new v t =
      let e = less new t.run (with_publication kept l v) (gives_moved new v t) in
      omega (arith, core.room, e)

  -- an output is a variant of the universe
  pub output_known : (new : LaneRun) (v : Variant)
      → IsTurn u (lane p l) r new (Gives v) turn_here → IsKnown u v
  output_known new v t =
      let place = subst (PlaceMove u (has_bit kept.words) (lane p l) (shown r)
      (slice_get (lane p l).instructions r.done)) t.told
      (turn_place u (has_bit kept.words) (lane p l) (shown r)
      (slice_get (lane p l).instructions r.done)) in
      All-slice_get (IsKnown u) (outputs u place.recipe) r.made v
      (core.sound.universe.outputs_known place.recipe) place.output

  pub output_named : (new : LaneRun) (v : Variant)
      → IsTurn u (lane p l) r new (Gives v) turn_here → v.name < length kept.words
  output_named new v t =
      let there = named u v.name v.bit (output_known new v t) in
      omega (arith, there, core.archive.long)

  -- the lane gives an output
  pub gives : (new : LaneRun) (v : Variant) → IsTurn u (lane p l) r new (Gives v) turn_here
      → r.waited ≤ length kept.history → (next : Kept) → next ≡ with_publication kept l v
      → IsStepped u p l lanes kept (slice_set lanes l new) next Moved
  gives new v t few next e =
      let longer : length (with_publication kept l v).history ≡ length kept.history + 1 =
      length-append kept.history
      (record { serial = length kept.history; lane = l; variant = v } ∷ []) in
      subst (λ (k : Kept). IsStepped u p l lanes kept (slice_set lanes l new) k Moved) (sym e)
      (stepped new t.run (with_publication kept l v) (gives_moved new v t)
      (subst (λ ps. IsArchive u ps (with_publication kept l v)) (sym (published_more v))
      (archive-published l v u (published_in kept.history) kept (output_named new v t)
      core.archive))
      refl (omega (arith, longer)) (omega (arith, few, t.waited, longer))
      (λ k x a. awake (with_publication kept l v) k x (omega (arith, a.within, longer))))

  stays : (new : LaneRun) → IsRun u (lane p l) new → shown new ≡ shown r
      → IsAsleep u p kept l new → (o : run.Outcome)
      → step u p (state_of lanes kept) l ≡ o
      → state_after (state_of lanes kept) o ≡ state_of lanes kept
      → IsStepped u p l lanes kept (slice_set lanes l new) kept (step_told o)
  stays new ok same rests o is_o unmoved =
      let lists : map shown (slice_set lanes l new) ≡ map shown lanes =
      map-set shown lanes l new
      ∙ (ap (slice_set (map shown lanes) l) (same ∙ sym lane_shown)
      ∙ set-get_or (map shown lanes) l no_state) in
      let states : state_of (slice_set lanes l new) kept ≡ state_of lanes kept =
      ap (λ xs. record { lanes = xs; published = published_in kept.history }) lists in record {
        core = record {
          sound = core.sound;
          long = length-set lanes l new ∙ core.long;
          each = each_put new ok;
          asleep = asleep_put new kept rests (λ k x a. a);
          archive = core.archive;
          places = subst (InPlaces u p) (sym states) core.places;
          room = subst (λ s. length kept.history + left_in u p s ≤ kept.room) (sym states)
              core.room;
        };
        is_told = ap step_told (sym is_o);
        is_after = states ∙ (sym unmoved ∙ ap (state_after (state_of lanes kept)) (sym is_o));
      }

  -- the lane is found waiting
  pub waits : (new : LaneRun) → IsTurn u (lane p l) r new Waits turn_here
      → IsStepped u p l lanes kept
      (slice_set lanes l (record new { waited = length kept.history + 1 })) kept Blocked
  waits new t =
      let now : LaneRun = record new { waited = length kept.history + 1 } in
      stays now (record { chroot = t.run.chroot; base = t.run.base; built = t.run.built }) t.kept
      (record {
        within = omega arith;
        waits = λ _.
            subst (λ (st : LaneState). turn_of u (has_bit kept.words) (lane p l) st
            (slice_get (lane p l).instructions st.done) ≡ turn.Waits) (sym t.kept) t.told;
      })
      run.Blocked (step_is ∙ ap (outcome (state_of lanes kept) l) t.told) refl

  pub ends : (new : LaneRun) → IsTurn u (lane p l) r new Ends turn_here
      → r.waited ≤ length kept.history
      → IsStepped u p l lanes kept (slice_set lanes l new) kept Finished
  ends new t few =
      stays new t.run t.kept (awake kept l new (omega (arith, few, t.waited))) run.Finished
      (step_is ∙ ap (outcome (state_of lanes kept) l) t.told) refl

  pub fails : (new : LaneRun) (trap : Trap) → IsTurn u (lane p l) r new (Fails trap) turn_here
      → r.waited ≤ length kept.history
      → IsStepped u p l lanes kept (slice_set lanes l new) kept (Trapped trap)
  fails new trap t few =
      stays new t.run t.kept (awake kept l new (omega (arith, few, t.waited))) (run.Trapped trap)
      (step_is ∙ ap (outcome (state_of lanes kept) l) t.told) refl

  -- the lane waits on
  pub sleeps : length kept.history < r.waited
      → IsStepped u p l lanes kept (slice_set lanes l r) kept Blocked
  sleeps late =
      let asleep = core.asleep l r is in
      let waits : turn_here ≡ turn.Waits = asleep.waits (omega (arith, late, asleep.within)) in
      let blocked : step u p (state_of lanes kept) l ≡ run.Blocked =
      step_is ∙ ap (outcome (state_of lanes kept) l) waits in
      let same : slice_set lanes l r ≡ lanes =
      ap (slice_set lanes l) (sym (get_or_from_slice_get lanes l r r is)) ∙ set-get_or lanes l r in
      let stepped_on : IsStepped u p l lanes kept lanes kept Blocked = record {
        core = core;
        is_told = ap step_told (sym blocked);
        is_after = ap (state_after (state_of lanes kept)) (sym blocked);
      } in
      subst (λ ls. IsStepped u p l lanes kept ls kept Blocked) (sym same) stepped_on
