-- Each lane stands at a place, and no run is longer than the count.
use Rattle.std.proofs.Common.{◌≡◌, ℕ, suc, ◌+◌, ◌<◌, ◌≤◌, Bool, true, inl, inr, List, [], ◌∷◌, length, drop, Option, Some, None, slice_get, refl, sym, ap, ◌∙◌, subst, arith, length-set, get_or-set_same, get_or-set_other}
use Rattle.std.proofs.lemmas.Bool.{false≢true, cases_eq}
use Rattle.std.proofs.lemmas.List.{length-map, get_or-map}
use Rattle.deb_relation.specs.declared.operator.Op.{Op}
use Rattle.farm_model.specs.Common.{sum_below, Universe}
use Rattle.farm_model.specs.declared.types.Variant.{Variant}
use Rattle.farm_model.proofs.BelowLaws.{sum_below-same, sum_below-change}
use Rattle.plan_model.specs.Common.{landing, past_else, Plan, else_place, lane, instruction_at, events_of, Ways, ways_ahead, ways, count, LaneState, start_lane, Turn, Goes, Gives, Waits, Ends, Fails, archive, State, start, lane_state, Moved, step, Run, IsSound}
use Rattle.plan_model.specs.declared.instructions.Instruction.{Instruction}
use Rattle.plan_model.specs.declared.instructions.Instruction.TheVariants.{Publish, Wait, When, Otherwise, EndWhen}
use Rattle.farm_laws.specs.EventsLeft.{StandsAt, InPlace, left, InPlaces, left_in}
use Rattle.farm_laws.proofs.Steps.{put, turn_at, After, step_keeps}
use Rattle.farm_laws.proofs.Branches.{drop_some, is_inner, IsStand, landed, else_behind, stand-outside, arrives-stands}
use Rattle.farm_laws.proofs.Places.{IsQuiet, IsWhen, GoesOn, GivesOne, PlaceMove, leads_to, turn_place}

-- what holds of each lane's state holds after a move that keeps it
pub put_each : (p : Plan) (Q : ℕ → LaneState → Type 0) (s : State) (l : ℕ) (next : LaneState)
    → length s.lanes ≡ length p → l < length p → ((k : ℕ) → k < length p → Q k (lane_state s k))
    → Q l next → (k : ℕ) → k < length p → Q k (lane_state (put s l next) k)
put_each p Q s l next long h each new k lt =
    elim (cases_eq k l) [
      | inl here ↦ subst (λ i. Q i (lane_state (put s l next) i)) (sym here)
          (subst (Q l) (sym (get_or-set_same s.lanes l next _ (omega arith))) new)
      | inr other ↦ subst (Q k) (sym (get_or-set_other s.lanes l k next _ other)) (each k lt)
    ]

module _ (u : Universe) (p : Plan) (sound : IsSound u p) where
  events_there : (l k : ℕ) (x : Instruction) → l < length p → instruction_at p l k ≡ Some x
      → IsStand (Some x) → 0 < events_of u x
  events_there l k (Publish r) h e b =
      sound.universe.outputs_there r (sound.plan.instructions l k (Publish r) h e)
  events_there l k Otherwise h e b = absurd b
  events_there l k EndWhen h e b = absurd b
  events_there l k _ h e b = omega arith

  -- a lane stands where it goes on, and at its beginning
  pub fresh_place : (l k : ℕ) → l < length p → IsStand (instruction_at p l k)
      → InPlace u (lane p l).instructions k 0
  fresh_place l k h b = fresh (instruction_at p l k) refl b
    where
      fresh : (o : Option Instruction) → instruction_at p l k ≡ o → IsStand o → StandsAt u o 0
      fresh None e b = refl
      fresh (Some x) e b = events_there l k x h e b

  -- where a move leaves the lane, and how many events are left
  abbrev MovesOn : ℕ → LaneState → LaneState → Type 0
  MovesOn l st next = InPlace u (lane p l).instructions next.done next.made
      × (suc (left u (lane p l).instructions next.done next.made)
      ≤ left u (lane p l).instructions st.done st.made)

  abbrev MovesOnBy : ℕ → LaneState → Turn → Type 0
  MovesOnBy l st (Goes next) = MovesOn l st next
  MovesOnBy l st (Gives next v) = MovesOn l st next
  MovesOnBy l st Waits = Unit {0}
  MovesOnBy l st Ends = Unit {0}
  MovesOnBy l st (Fails t) = Unit {0}

  -- the ways ahead of an instruction
  ways_at : (is : List Instruction) (k : ℕ) (x : Instruction) → slice_get is k ≡ Some x
      → ways u (drop k is) ≡ ways_ahead u x (ways u (drop (suc k) is))
  ways_at is k x e = ap (ways u) (drop_some is k x e)

  -- an instruction inside a branch changes neither the ways from behind it nor those from behind
  -- the next `else`
  inner_end : (x : Instruction) (w : Ways) → is_inner x ≡ true
      → (ways_ahead u x w).past_end ≡ w.past_end
  inner_end (Publish r) w h = absurd (false≢true h)
  inner_end (Wait e) w h = absurd (false≢true h)
  inner_end (When name wanted) w h = absurd (false≢true h)
  inner_end Otherwise w h = absurd (false≢true h)
  inner_end EndWhen w h = absurd (false≢true h)
  inner_end _ w h = refl

  inner_else : (x : Instruction) (w : Ways) → is_inner x ≡ true
      → (ways_ahead u x w).past_else ≡ w.past_else
  inner_else (Publish r) w h = absurd (false≢true h)
  inner_else (Wait e) w h = absurd (false≢true h)
  inner_else (When name wanted) w h = absurd (false≢true h)
  inner_else Otherwise w h = absurd (false≢true h)
  inner_else EndWhen w h = absurd (false≢true h)
  inner_else _ w h = refl

  -- where a lane goes on it has as many events left as where it comes to
  ways_land : (l k c : ℕ) → l < length p → (ways u (drop k (lane p l).instructions)).here ≡ c
      → (ways u (drop (landing (lane p l).instructions k) (lane p l).instructions)).here ≡ c
  ways_land l k c h e =
      let is = (lane p l).instructions in
      landed is (sound.plan.branched l h)
      (λ j. (ways u (drop j is)).here ≡ c) (λ w j. (ways u (drop j is)).past_end ≡ c)
      (λ j. (ways u (drop j is)).here ≡ c) (λ j s q. q)
      (λ w j s at q. sym (ap (λ (t : Ways). t.here) (ways_at is j Otherwise at)) ∙ q)
      (λ w j x at s inner q. sym (ap (λ (t : Ways). t.past_end) (ways_at is j x at)
      ∙ inner_end x (ways u (drop (suc j) is)) inner) ∙ q)
      (λ w j s at q. sym (ap (λ (t : Ways). t.past_end) (ways_at is j EndWhen at)) ∙ q)
      (λ w j s at q. sym (ap (λ (t : Ways). t.here) (ways_at is j EndWhen at)) ∙ q) k e

  -- so has a `when` where its second branch begins
  ways_else : (l k name : ℕ) (wanted : Option (Op × List ℕ)) → l < length p
      → instruction_at p l k ≡ Some (When name wanted)
      → (ways u (drop (else_place (lane p l) k) (lane p l).instructions)).here
      ≡ (ways u (drop (suc k) (lane p l).instructions)).past_else
  ways_else l k name wanted h e =
      let is = (lane p l).instructions in
      let c = (ways u (drop (suc k) is)).past_else in
      let found = else_behind is (sound.plan.branched l h) k name wanted e
      (λ j. (ways u (drop j is)).past_else ≡ c)
      (λ j x at s inner q. sym (ap (λ (t : Ways). t.past_else) (ways_at is j x at)
      ∙ inner_else x (ways u (drop (suc j) is)) inner) ∙ q) refl in
      ways_land l (past_else (drop (suc k) is) (suc k)) c h
      (ap (λ j. (ways u (drop j is)).here) found.place
      ∙ sym (ap (λ (t : Ways). t.past_else) (ways_at is found.at Otherwise found.is))
      ∙ found.holds)

  -- behind an instruction, and behind a `when` that does not hold, less is left than ahead of it
  less_ahead : (x : Instruction) (w : Ways) (there : Variant → Bool) → IsQuiet u there x
      → suc w.here ≤ (ways_ahead u x w).here
  less_ahead (Publish r) w there q = absurd q
  less_ahead Otherwise w there q = absurd q
  less_ahead EndWhen w there q = absurd q
  less_ahead (When name wanted) w there q = omega arith
  less_ahead _ w there q = omega arith

  events_of-quiet : (there : Variant → Bool) (x : Instruction) → IsQuiet u there x
      → events_of u x ≡ 1
  events_of-quiet there (Publish r) q = absurd q
  events_of-quiet there Otherwise q = absurd q
  events_of-quiet there EndWhen q = absurd q
  events_of-quiet there _ q = refl

  goes_on : (l : ℕ) (there : Variant → Bool) (st next : LaneState) → l < length p
      → InPlace u (lane p l).instructions st.done st.made
      → GoesOn u there (lane p l) st (instruction_at p l st.done) next → MovesOn l st next
  unfolding left
  goes_on l there st next h ok g =
      let is = (lane p l).instructions in
      let lt : st.made < events_of u g.instruction = rw g.is at ok in
      let one = events_of-quiet there g.instruction g.quiet in
      let stands = arrives-stands (lane p l) (sound.plan.branched l h) st.done g.instruction
      next.done (leads_to g) in
      (rw g.made (fresh_place l next.done h stands), rw g.made (fewer lt one))
    where
      at_when : (x : Instruction) → instruction_at p l st.done ≡ Some x → IsWhen x
          → (ways u (drop (else_place (lane p l) st.done) (lane p l).instructions)).here
          < (ways u (drop st.done (lane p l).instructions)).here
      at_when (When name wanted) e w =
          let is = (lane p l).instructions in
          let far = ways_else l st.done name wanted h e in
          let near = ap (λ (t : Ways). t.here) (ways_at is st.done (When name wanted) e) in
          omega (arith, far, near)
      at_when _ e w = absurd w

      fewer : st.made < events_of u g.instruction → events_of u g.instruction ≡ 1
          → suc (left u (lane p l).instructions next.done 0)
          ≤ left u (lane p l).instructions st.done st.made
      fewer lt one =
          let is = (lane p l).instructions in
          let near = ap (λ (t : Ways). t.here) (ways_at is st.done g.instruction g.is) in
          elim (leads_to g) [
            | inl behind ↦
                let same = ap (λ j. (ways u (drop j is)).here) behind
                ∙ ways_land l (suc st.done) _ h refl in
                let less = less_ahead g.instruction (ways u (drop (suc st.done) is)) there
                g.quiet in
                omega (arith, near, same, less, lt, one)
            | inr other ↦
                let same = ap (λ j. (ways u (drop j is)).here) other.1 in
                let less = at_when g.instruction g.is other.0 in
                omega (arith, same, less, lt, one)
          ]

  gives_one : (l : ℕ) (st next : LaneState) (v : Variant) → l < length p
      → InPlace u (lane p l).instructions st.done st.made
      → GivesOne u (lane p l) st (instruction_at p l st.done) next v → MovesOn l st next
  unfolding left
  gives_one l st next v h ok g =
      let is = (lane p l).instructions in
      let lt : st.made < events_of u (Publish g.recipe) = rw g.is at ok in
      let near = ap (λ (t : Ways). t.here) (ways_at is st.done (Publish g.recipe) g.is) in
      elim g.place [
        | inl w ↦ (rw (w.1, w.2, g.is) w.0, rw (w.1, w.2) (omega (arith, near, w.0)))
        | inr w ↦
            let stands = arrives-stands (lane p l) (sound.plan.branched l h) st.done
            (Publish g.recipe) next.done (inl w.1) in
            let same = ap (λ j. (ways u (drop j is)).here) w.1
            ∙ ways_land l (suc st.done) _ h refl in (
              rw w.2 (fresh_place l next.done h stands),
              rw w.2 (omega (arith, near, same, w.0, lt)),
            )
      ]

  moves_on : (l : ℕ) (there : Variant → Bool) (st : LaneState) (m : Turn) → l < length p
      → InPlace u (lane p l).instructions st.done st.made
      → PlaceMove u there (lane p l) st (instruction_at p l st.done) m → MovesOnBy l st m
  moves_on l there st (Goes next) h ok g = goes_on l there st next h ok g
  moves_on l there st (Gives next v) h ok g = gives_one l st next v h ok g
  moves_on l there st Waits h ok g = tt
  moves_on l there st Ends h ok g = tt
  moves_on l there st (Fails t) h ok g = tt

  -- after a move each lane stands at a place, and one event less is left
  put_next : (s : State) (l : ℕ) (next : LaneState) → l < length p → InPlaces u p s
      → MovesOn l (lane_state s l) next
      → InPlaces u p (put s l next) × (suc (left_in u p (put s l next)) ≤ left_in u p s)
  unfolding left_in
  put_next s l next h ok m =
      let f : ℕ → ℕ = λ k. left u (lane p k).instructions (lane_state s k).done
      (lane_state s k).made in
      let g : ℕ → ℕ = λ k. left u (lane p k).instructions (lane_state (put s l next) k).done
      (lane_state (put s l next) k).made in
      let there : lane_state (put s l next) l ≡ next =
      get_or-set_same s.lanes l next _ (omega (arith, ok.long)) in
      let gl : g l ≡ left u (lane p l).instructions next.done next.made =
      ap (λ (x : LaneState). left u (lane p l).instructions x.done x.made) there in
      let sums : sum_below (length p) f + g l ≡ sum_below (length p) g + f l =
      sum_below-change (length p) l f g h
      (λ k b other. sym (ap (λ (x : LaneState). left u (lane p k).instructions x.done x.made)
      (get_or-set_other s.lanes l k next _ other))) in (
        record {
          long = length-set s.lanes l next
              ∙ ok.long;
          each = put_each p (λ k x. InPlace u
              (lane p k).instructions x.done x.made) s l next ok.long h ok.each m.0;
        },
        omega (arith, m.1, gl, sums),
      )

  moved : (s : State) (l : ℕ) (m : Turn) → l < length p → InPlaces u p s
      → MovesOnBy l (lane_state s l) m
      → After (λ t. InPlaces u p t × (suc (left_in u p t) ≤ left_in u p s)) s l m
  unfolding left_in
  moved s l (Goes next) h ok b = put_next s l next h ok b
  moved s l (Gives next v) h ok b =
      let r = put_next s l next h ok b in (record { long = r.0.long; each = r.0.each }, r.1)
  moved s l Waits h ok b = tt
  moved s l Ends h ok b = tt
  moved s l (Fails t) h ok b = tt

  pub step_places : (s t : State) (l : ℕ) → InPlaces u p s → step u p s l ≡ Moved t
      → InPlaces u p t × (suc (left_in u p t) ≤ left_in u p s)
  unfolding turn_at
  step_places s t l ok e =
      step_keeps u p (λ t. InPlaces u p t × (suc (left_in u p t) ≤ left_in u p s)) s t l e
      (λ h. moved s l (turn_at u p s l) h ok
      (moves_on l (archive u s.published) (lane_state s l) (turn_at u p s l) h (ok.each l h)
      (turn_place u (archive u s.published) (lane p l) (lane_state s l)
      (instruction_at p l (lane_state s l).done))))

  pub run_left : (ls : List ℕ) (s t : State) → InPlaces u p s → Run u p s ls t
      → length ls + left_in u p t ≤ left_in u p s
  run_left [] s t ok r = let same = ap (left_in u p) r in omega (arith, same)
  run_left (l ∷ ls) s t ok r =
      let a = step_places s r.0 l ok r.1 in
      let b = run_left ls r.0 t a.0 r.2 in omega (arith, a.1, b)

  pub state_at_start : (k : ℕ) → k < length p → lane_state (start u p) k ≡ start_lane u (lane p k)
  state_at_start k h = get_or-map (start_lane u) p k _ _ h

  pub places_at_start : InPlaces u p (start u p)
  places_at_start = record {
    long = length-map p (start_lane u);
    each = λ k h. rw (state_at_start k h) (fresh_place k 0 h
        (stand-outside (lane p k).instructions (sound.plan.branched k h) 0 refl));
  }

  pub left_at_start : left_in u p (start u p) ≡ count u p
  unfolding left_in left count
  left_at_start =
      sum_below-same (length p) _ _ (λ k h. rw (state_at_start k h) (omega arith))

-- no run is longer than the plan's count of events
pub runs_end : (u : Universe) (p : Plan) → IsSound u p → (schedule : List ℕ) (s : State)
    → Run u p (start u p) schedule s → length schedule ≤ count u p
runs_end u p sound schedule s r =
    let a = run_left u p sound schedule (start u p) s (places_at_start u p sound) r in
    let b = left_at_start u p sound in omega (arith, a, b)
