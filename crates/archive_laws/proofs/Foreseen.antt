-- What holds of the worlds of an annotated plan.
use Rattle.std.proofs.Common.{◌≡◌, ◌≢◌, ◌⊎◌, ℕ, zero, suc, ◌<◌, ◌≤◌, Bool, true, false, List, [], ◌∷◌, length, drop, Option, Some, None, slice_get, refl, sym, ap, ◌∙◌, subst, arith, get_or-set_same}
use Rattle.std.specs.Prelude.{slice_index_or}
use Rattle.std.proofs.lemmas.Option.{none-some, same_Some}
use Rattle.farm_model.specs.Common.{Universe, has_bit}
use Rattle.farm_model.specs.declared.types.Trap.{Trap}
use Rattle.plan_model.specs.Common.{Plan, lane, instruction_at, LaneState, Turn, Goes, Gives, Waits, Ends, Fails, unless, turn_of, no_state, lane_state, outcome, Rows, possible, publishing, AllowsAll, may_at, lane_cost, IsAnnotation, IsSound, World, world_lane, Shows, nothing, goes_on, settled, is_archive_step, IsForeseen, IsWithinBudget}
use Rattle.plan_model.specs.declared.instructions.Instruction.{Instruction}
use Rattle.plan_model.specs.declared.instructions.Instruction.TheVariants.{Configure, Deconfigure, Remove, Build, Otherwise, EndWhen}
use Rattle.farm_laws.proofs.LawsOfPlans.{states_are_foreseen, lanes_are_within_budget}
use Rattle.farm_laws.proofs.Places.{IsWhen}
use Rattle.farm_laws.proofs.Whole.{holds_after, never_trapped}
use Rattle.archive_laws.specs.Shown.{IsReached, with_lane, ready_lane, WorldsAreForeseen, WorldsAreReady}
use Rattle.archive_laws.proofs.Turns.{turn_in, step_is, turn_shown}
use Rattle.archive_laws.proofs.Skips.{going_on}
use Rattle.archive_laws.proofs.Settles.{next_of, IsBlind, blind_turn, local_step, is_left, ready_reached}

pub worlds_are_foreseen : WorldsAreForeseen
worlds_are_foreseen u p rows sound annotation w r =
    record {
      known =
          λ l v lt e. sym (sh.archive_is v)
          ∙ facts.known l v lt (subst (λ (st : LaneState). rows l st.done v ≡ true)
          (sym (lane_is l)) e);
      facts = λ c v e fact. sym (sh.archive_is v) ∙ facts.facts c v (sh.archive_is c ∙ e) fact;
      bounded =
          λ l v lt e. subst (λ (st : LaneState). (possible u p l st.done v ≡ true)
          ⊎ (publishing u (instruction_at p l st.done) st.made v ≡ true)) (lane_is l)
          (facts.bounded l v lt (sh.archive_is v ∙ e));
      allowed =
          λ l lt. subst (λ (st : LaneState). AllowsAll u (may_at u p rows l st.done) st.chroot)
          (lane_is l) (facts.allowed l lt);
      spent =
          λ l lt. subst (λ (st : LaneState). st.spent ≤ lane_cost u p rows l) (lane_is l)
          (costs.spent l lt);
    }
  where
    sh : Shows u w r.shown.0
    sh = r.shown.2

    facts : IsForeseen u p rows r.shown.0
    facts = states_are_foreseen u p rows sound annotation r.shown.0 r.shown.1

    costs : IsWithinBudget u p rows r.shown.0
    costs = lanes_are_within_budget u p rows sound annotation r.shown.0 r.shown.1

    lane_is : (l : ℕ) → lane_state r.shown.0 l ≡ world_lane w l
    lane_is l = ap (λ (xs : List LaneState). slice_index_or xs l no_state) sh.lanes

pub none_left : {X : Type 0} (xs : List X) (i : ℕ) → drop i xs ≡ [] → slice_get xs i ≡ None
none_left [] zero e = refl
none_left [] (suc i) e = refl
none_left (x ∷ xs) zero e = cc
none_left (x ∷ xs) (suc i) e = none_left xs i e

-- a turn that goes on or meets a trap
abbrev pub OnlyGoes : Turn → Type 0
OnlyGoes (Goes next) = Unit {0}
OnlyGoes (Gives next v) = ⊥
OnlyGoes Waits = ⊥
OnlyGoes Ends = ⊥
OnlyGoes (Fails trap) = Unit {0}

pub unless_goes : (o : Option Trap) (next : LaneState) → OnlyGoes (unless o (Goes next))
unless_goes None next = tt
unless_goes (Some trap) next = tt

module _ (u : Universe) (p : Plan) (rows : Rows) (sound : IsSound u p)
    (annotation : IsAnnotation u p rows) (l : ℕ) (in_plan : l < length p) where
  -- no turn in a world that is reached meets a trap
  never_fails : (w : World) → IsReached u p w → (trap : Trap)
      → turn_in u p l (has_bit w.words) (world_lane w l) ≢ Fails trap
  never_fails w r trap e =
      let s = r.shown.0 in
      let h =
      holds_after u p rows sound annotation.keeps annotation.safe r.shown.1.0 s r.shown.1.1 in
      never_trapped u p rows sound annotation.keeps annotation.safe s h l trap
      (step_is u p s l in_plan ∙ ap (outcome s l) (turn_shown u p w s l r.shown.2 ∙ e))

  -- an instruction of the archive is where the lane stands
  stands_there : (w : World) (x y : Instruction) (xs : List Instruction) → is_archive_step x ≡ true
      → IsReached u p w
      → going_on false (drop (world_lane w l).done (lane p l).instructions) ≡ x ∷ xs
      → instruction_at p l (world_lane w l).done ≡ Some y → is_archive_step y ≡ true
  stands_there w x y xs is r at e =
      let here = is_left u p sound l in_plan w (x ∷ xs) r at in
      subst (λ z. is_archive_step z ≡ true)
      (same_Some x y (sym (next_of (lane p l).instructions (world_lane w l).done x xs here).0 ∙ e))
      is

  -- what is to show of the instructions that are left
  abbrev ComesTo : World → Bool → List Instruction → Type 0
  ComesTo w skips xs =
      IsReached u p w
      → going_on false (drop (world_lane w l).done (lane p l).instructions) ≡ going_on skips xs
      → (y : Instruction) → instruction_at p l (settled u (lane p l) skips xs
      (world_lane w l)).done ≡ Some y → is_archive_step y ≡ true

  local_comes : (w : World) (x : Instruction) (xs : List Instruction)
      → ((v : World) → ComesTo v false xs) → IsReached u p w → (IsWhen x → ⊥)
      → IsBlind u p sound l in_plan w x
      → going_on false (drop (world_lane w l).done (lane p l).instructions) ≡ x ∷ xs
      → (turn : Turn) → turn_of u nothing (lane p l) (world_lane w l) (Some x) ≡ turn
      → OnlyGoes turn
      → (y : Instruction) → instruction_at p l (goes_on (world_lane w l) turn
      (λ next. settled u (lane p l) false xs next)).done ≡ Some y → is_archive_step y ≡ true
  local_comes w x xs after r plain blind at (Goes next) e only y is =
      let here = is_left u p sound l in_plan w (x ∷ xs) r at in
      let one = local_step u p sound l in_plan w x xs next r plain blind here e in
      after (with_lane w l next) one.reached one.rest y
      (subst (λ (st : LaneState). instruction_at p l (settled u (lane p l) false xs st).done
      ≡ Some y) (sym one.stands) is)
  local_comes w x xs after r plain blind at (Gives next v) e only y is = absurd only
  local_comes w x xs after r plain blind at Waits e only y is = absurd only
  local_comes w x xs after r plain blind at Ends e only y is = absurd only
  local_comes w x xs after r plain blind at (Fails trap) e only y is =
      let here = is_left u p sound l in_plan w (x ∷ xs) r at in
      absurd (never_fails w r trap (blind_turn u p sound l in_plan w x xs blind here ∙ e))

  at_end : (w : World) (y : Instruction) → IsReached u p w
      → going_on false (drop (world_lane w l).done (lane p l).instructions) ≡ []
      → instruction_at p l (world_lane w l).done ≡ Some y → is_archive_step y ≡ true
  at_end w y r at is =
      absurd (none-some y (sym (none_left (lane p l).instructions (world_lane w l).done
      (is_left u p sound l in_plan w [] r at)) ∙ is))

  comes_to : (skips : Bool) (xs : List Instruction) (w : World) → ComesTo w skips xs
  comes_to true [] w r at y is = at_end w y r at is
  comes_to false [] w r at y is = at_end w y r at is
  comes_to true (EndWhen ∷ xs) w r at y is = comes_to false xs w r at y is
  comes_to true (x ∷ xs) w r at y is = comes_to true xs w r at y is
  comes_to false (Otherwise ∷ xs) w r at y is = comes_to true xs w r at y is
  comes_to false (EndWhen ∷ xs) w r at y is = comes_to false xs w r at y is
  comes_to false (Configure members ∷ xs) w r at y is =
      local_comes w (Configure members) xs (λ v. comes_to false xs v) r (λ a. a) (λ there. refl) at
      (turn_of u nothing (lane p l) (world_lane w l) (Some (Configure members))) refl
      (unless_goes _ _) y is
  comes_to false (Deconfigure members ∷ xs) w r at y is =
      local_comes w (Deconfigure members) xs (λ v. comes_to false xs v) r (λ a. a) (λ there. refl)
      at (turn_of u nothing (lane p l) (world_lane w l) (Some (Deconfigure members))) refl
      (unless_goes _ _) y is
  comes_to false (Remove members ∷ xs) w r at y is =
      local_comes w (Remove members) xs (λ v. comes_to false xs v) r (λ a. a) (λ there. refl) at
      (turn_of u nothing (lane p l) (world_lane w l) (Some (Remove members))) refl
      (unless_goes _ _) y is
  comes_to false (Build recipe ∷ xs) w r at y is =
      local_comes w (Build recipe) xs (λ v. comes_to false xs v) r (λ a. a) (λ there. refl) at
      (turn_of u nothing (lane p l) (world_lane w l) (Some (Build recipe))) refl
      (unless_goes _ _) y is
  comes_to false (x ∷ xs) w r at y is = stands_there w x y xs refl r at is

pub worlds_are_ready : WorldsAreReady
worlds_are_ready u p rows sound annotation w r l lt =
    record {
      at_archive =
          λ x is. comes_to u p rows sound annotation l lt false
          (drop (world_lane w l).done (lane p l).instructions) w r refl x is;
      no_trap = λ trap e.
          let st = ready_lane u p w l in
          let here : world_lane (with_lane w l st) l ≡ st =
          get_or-set_same w.lanes l st no_state (omega (arith, r.lanes, lt)) in
          never_fails u p rows sound annotation l lt (with_lane w l st)
          (ready_reached u p sound l lt w r) trap
          (ap (turn_in u p l (has_bit w.words)) here ∙ e);
    }
