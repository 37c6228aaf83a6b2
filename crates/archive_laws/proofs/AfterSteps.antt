-- Lanes stand at their beginning, just after an archive step, or inside a publish.
use Rattle.std.proofs.Common.{◌≡◌, ℕ, zero, suc, Bool, true, false, inl, inr, List, [], ◌∷◌, length, map, drop, Option, Some, None, slice_get, slice_set, refl, sym, ap, ◌∙◌, subst, arith, get_or-set_same, get_or-set_other}
use Rattle.std.specs.Prelude.{nat_lt, slice_index_or}
use Rattle.std.proofs.lemmas.Bool.{cases_eq, cases_lt, lt-ltb, and_from, or_left, or_right}
use Rattle.std.proofs.lemmas.List.{set_past, get_or_past}
use Rattle.std.proofs.lemmas.Option.{none-some, same_Some}
use Rattle.farm_model.specs.Common.{Universe, has_bit}
use Rattle.farm_model.specs.declared.types.Variant.{Variant}
use Rattle.plan_model.specs.Common.{IsBranched, landing, Lane, Plan, no_lane, lane, instruction_at, else_place, LaneState, start_lane, Turn, Goes, Gives, Waits, Ends, Fails, turn_of, no_state, IsSound, World, world_lane, goes_on, nothing, settled, ready, with_bit, world_after, archive_step, is_archive_step, is_behind_step, is_place_after_step, is_publish, is_after_step, IsAfterSteps}
use Rattle.plan_model.specs.declared.instructions.Instruction.{Instruction}
use Rattle.plan_model.specs.declared.instructions.Instruction.TheVariants.{Configure, Deconfigure, Remove, Build, Publish, When, Otherwise, EndWhen}
use Rattle.farm_laws.proofs.Branches.{IsStand, landed, else_behind, arrives-stands}
use Rattle.farm_laws.proofs.Places.{IsWhen, LeadsTo, leads_to, GoesOn, GivesOne, PlaceMove, turn_place}
use Rattle.archive_laws.specs.Shown.{IsReached, LanesStandAfterSteps}
use Rattle.archive_laws.proofs.Skips.{next_of, going_on, standing_on, next_on, goes_behind}
use Rattle.archive_laws.proofs.Stands.{stands_in}
use Rattle.archive_laws.proofs.Foreseen.{OnlyGoes, unless_goes, none_left}

-- each lane of a plan begins at place 0
begins : (u : Universe) (p : Plan) (l : ℕ)
    → (slice_index_or (map (start_lane u) p) l no_state).done ≡ 0
begins u [] zero = refl
begins u [] (suc l) = refl
begins u (x ∷ p) zero = refl
begins u (x ∷ p) (suc l) = begins u p l

-- the instruction is there, and an archive step
abbrev is_at_archive : Option Instruction → Bool
is_at_archive None = false
is_at_archive (Some x) = is_archive_step x

module _ (u : Universe) (of : Lane) (branched : IsBranched of.instructions) where
  -- what a lane does at its turn
  abbrev pub at_turn : (Variant → Bool) → LaneState → Turn
  at_turn there st = turn_of u there of st (slice_get of.instructions st.done)

  -- a turn that moves the lane is an archive step
  abbrev pub IsAtStep : LaneState → Turn → Type 0
  IsAtStep st (Goes next) = is_at_archive (slice_get of.instructions st.done) ≡ true
  IsAtStep st _ = Unit {0}

  -- it is, where the lane stands at one
  stands_at : (st : LaneState) (turn : Turn)
      → is_at_archive (slice_get of.instructions st.done) ≡ true → IsAtStep st turn
  stands_at st (Goes next) is = is
  stands_at st (Gives next v) is = tt
  stands_at st Waits is = tt
  stands_at st Ends is = tt
  stands_at st (Fails trap) is = tt

  -- and where it cannot go on
  abbrev pub Comes : Bool → List Instruction → LaneState → Type 0
  Comes skips xs st =
      (there : Variant → Bool) → IsStand (slice_get of.instructions st.done)
      → going_on false (drop st.done of.instructions) ≡ going_on skips xs
      → IsAtStep (settled u of skips xs st) (at_turn there (settled u of skips xs st))

  is_left : (st : LaneState) (xs : List Instruction) → IsStand (slice_get of.instructions st.done)
      → going_on false (drop st.done of.instructions) ≡ xs → drop st.done of.instructions ≡ xs
  is_left st xs stands at = sym (standing_on of.instructions st.done stands) ∙ at

  no_turn : (there : Variant → Bool) (st : LaneState) (o : Option Instruction) → o ≡ None
      → IsAtStep st (turn_of u there of st o)
  no_turn there st None e = tt
  no_turn there st (Some x) e = absurd (none-some x (sym e))

  ends_at : (there : Variant → Bool) (st : LaneState) → IsStand (slice_get of.instructions st.done)
      → going_on false (drop st.done of.instructions) ≡ [] → IsAtStep st (at_turn there st)
  ends_at there st stands at =
      no_turn there st _ (none_left of.instructions st.done (is_left st [] stands at))

  starts_at : (there : Variant → Bool) (st : LaneState) (x : Instruction) (xs : List Instruction)
      → IsStand (slice_get of.instructions st.done)
      → going_on false (drop st.done of.instructions) ≡ x ∷ xs → is_archive_step x ≡ true
      → IsAtStep st (at_turn there st)
  starts_at there st x xs stands at is =
      stands_at st (at_turn there st)
      (ap is_at_archive
      (next_of of.instructions st.done x xs (is_left st (x ∷ xs) stands at)).0 ∙ is)

  -- after a local instruction, whose turn this is
  local_comes : (x : Instruction) (xs : List Instruction)
      → ((next : LaneState) → Comes false xs next) → (IsWhen x → ⊥)
      → (st : LaneState) (turn : Turn) → OnlyGoes turn
      → ((there : Variant → Bool) → turn_of u there of st (Some x) ≡ turn)
      → (there : Variant → Bool) → IsStand (slice_get of.instructions st.done)
      → going_on false (drop st.done of.instructions) ≡ x ∷ xs
      → IsAtStep (goes_on st turn (λ next. settled u of false xs next))
      (at_turn there (goes_on st turn (λ next. settled u of false xs next)))
  local_comes x xs after plain st (Goes next) only is there stands at =
      let behind = goes_behind u nothing of st next x plain (is nothing) in
      after next there (arrives-stands of branched st.done x next.done (inl behind))
      (next_on of st.done next.done x xs (is_left st (x ∷ xs) stands at) behind)
  local_comes x xs after plain st (Gives next v) only is there stands at = absurd only
  local_comes x xs after plain st Waits only is there stands at = absurd only
  local_comes x xs after plain st Ends only is there stands at = absurd only
  local_comes x xs after plain st (Fails trap) only is there stands at =
      let here = (next_of of.instructions st.done x xs (is_left st (x ∷ xs) stands at)).0 in
      let fails : at_turn there st ≡ Fails trap =
      ap (turn_of u there of st) here ∙ is there in
      subst (IsAtStep st) (sym fails) tt

  comes : (skips : Bool) (xs : List Instruction) (st : LaneState) → Comes skips xs st
  comes true [] st there stands at = ends_at there st stands at
  comes false [] st there stands at = ends_at there st stands at
  comes true (EndWhen ∷ xs) st there stands at = comes false xs st there stands at
  comes true (x ∷ xs) st there stands at = comes true xs st there stands at
  comes false (Otherwise ∷ xs) st there stands at = comes true xs st there stands at
  comes false (EndWhen ∷ xs) st there stands at = comes false xs st there stands at
  comes false (Configure members ∷ xs) st there stands at =
      local_comes (Configure members) xs (λ next. comes false xs next) (λ a. a) st
      (turn_of u nothing of st (Some (Configure members))) (unless_goes _ _) (λ a. refl) there
      stands at
  comes false (Deconfigure members ∷ xs) st there stands at =
      local_comes (Deconfigure members) xs (λ next. comes false xs next) (λ a. a) st
      (turn_of u nothing of st (Some (Deconfigure members))) (unless_goes _ _) (λ a. refl) there
      stands at
  comes false (Remove members ∷ xs) st there stands at =
      local_comes (Remove members) xs (λ next. comes false xs next) (λ a. a) st
      (turn_of u nothing of st (Some (Remove members))) (unless_goes _ _) (λ a. refl) there
      stands at
  comes false (Build r ∷ xs) st there stands at =
      local_comes (Build r) xs (λ next. comes false xs next) (λ a. a) st
      (turn_of u nothing of st (Some (Build r))) (unless_goes _ _) (λ a. refl) there stands at
  comes false (x ∷ xs) st there stands at = starts_at there st x xs stands at refl

  abbrev IsAfter : ℕ → Type 0
  IsAfter j = is_place_after_step of j ≡ true

  -- an archive step leads behind itself, behind an `else`, or behind the `end` of its branch
  place_behind : (k : ℕ) (x : Instruction) (next : ℕ) → slice_get of.instructions k ≡ Some x
      → is_archive_step x ≡ true → LeadsTo of k x next → is_place_after_step of next ≡ true
  place_behind k x next at is place =
      elim place [
        | inl behind ↦ subst IsAfter (sym behind) (lands (suc k) (by_step x at is))
        | inr other ↦ subst IsAfter (sym other.1) (by_else x at other.0)
      ]
    where
      lands : (j : ℕ) → IsAfter j → IsAfter (landing of.instructions j)
      lands = landed of.instructions branched IsAfter (λ w j. Unit {0}) IsAfter (λ j s h. h)
          (λ w j s e h. tt) (λ w j y e s inner h. tt) (λ w j s e h. ap is_behind_step e)
          (λ w j s e h. ap is_behind_step e)

      by_step : (y : Instruction) → slice_get of.instructions k ≡ Some y → is_archive_step y ≡ true
          → IsAfter (suc k)
      by_step Otherwise e h = ap is_behind_step e
      by_step EndWhen e h = ap is_behind_step e
      by_step _ e h = ap is_behind_step e ∙ h

      by_else : (y : Instruction) → slice_get of.instructions k ≡ Some y → IsWhen y
          → IsAfter (else_place of k)
      by_else (When name wanted) e h =
          let found = else_behind of.instructions branched k name wanted e (λ j. Unit {0})
          (λ j z f s inner q. tt) tt in
          lands _ (subst IsAfter (sym found.place) (ap is_behind_step found.is))
      by_else _ e h = absurd h

  -- behind an archive step the lane stands after one
  goes_after : (there : Variant → Bool) (st next : LaneState) → IsAtStep st (Goes next)
      → at_turn there st ≡ Goes next → is_after_step of next ≡ true
  goes_after there st next is e =
      let moved : GoesOn u there of st (slice_get of.instructions st.done) next =
      subst (PlaceMove u there of st (slice_get of.instructions st.done)) e
      (turn_place u there of st (slice_get of.instructions st.done)) in
      or_right _ _ (place_behind st.done moved.instruction next.done moved.is
      (ap is_at_archive (sym moved.is) ∙ is) (leads_to moved))

  -- and so it does behind an output
  gives_after : (there : Variant → Bool) (st next : LaneState) (v : Variant)
      → at_turn there st ≡ Gives next v → is_after_step of next ≡ true
  gives_after there st next v e =
      let gives : GivesOne u of st (slice_get of.instructions st.done) next v =
      subst (PlaceMove u there of st (slice_get of.instructions st.done)) e
      (turn_place u there of st (slice_get of.instructions st.done)) in
      elim gives.place [
        | inl inside ↦ or_left _ _
            (and_from _ _ (ap (nat_lt 0) inside.2 ∙ lt-ltb 0 (suc st.made) (omega arith))
            (ap (λ k. is_publish (slice_get of.instructions k)) inside.1
            ∙ ap is_publish gives.is))
        | inr last ↦ or_right _ _
            (place_behind st.done (Publish gives.recipe) next.done gives.is refl (inl last.1))
      ]

-- a lane that is written keeps this, and the others do
written : (p : Plan) (w : World) (words : List ℕ) (l : ℕ) (st : LaneState) → IsAfterSteps p w
    → is_after_step (lane p l) st ≡ true
    → IsAfterSteps p (record { words = words; lanes = slice_set w.lanes l st })
written p w words l st all here k =
    elim (cases_eq k l) [
      | inl same ↦ elim (cases_lt l (length w.lanes)) [
        | inl lt ↦ subst (λ n. is_after_step (lane p n)
            (slice_index_or (slice_set w.lanes l st) n no_state) ≡ true) (sym same)
            (ap (is_after_step (lane p l)) (get_or-set_same w.lanes l st no_state lt) ∙ here)
        | inr past ↦ ap (λ (xs : List LaneState). is_after_step (lane p k)
            (slice_index_or xs k no_state)) (set_past w.lanes l st past) ∙ all k
      ]
      | inr other ↦ ap (is_after_step (lane p k)) (get_or-set_other w.lanes l k st no_state other)
          ∙ all k
    ]

after_turn : (u : Universe) (p : Plan) (w next : World) (l : ℕ) (st : LaneState) (turn : Turn)
    → (branched : IsBranched (lane p l).instructions) → IsAfterSteps p w
    → IsAtStep u (lane p l) branched st turn
    → at_turn u (lane p l) branched (has_bit w.words) st ≡ turn
    → world_after w l turn ≡ Some next → IsAfterSteps p next
after_turn u p w next l st (Goes new) branched all is e a =
    subst (IsAfterSteps p) (same_Some _ next a)
    (written p w w.words l new all (goes_after u (lane p l) branched (has_bit w.words) st new is e))
after_turn u p w next l st (Gives new v) branched all is e a =
    subst (IsAfterSteps p) (same_Some _ next a)
    (written p w (with_bit w.words v) l new all
    (gives_after u (lane p l) branched (has_bit w.words) st new v e))
after_turn u p w next l st Waits branched all is e a = absurd (none-some next a)
after_turn u p w next l st Ends branched all is e a = absurd (none-some next a)
after_turn u p w next l st (Fails trap) branched all is e a = absurd (none-some next a)

-- past the last lane there is nothing
branched_each : (u : Universe) (p : Plan) → IsSound u p → (l : ℕ)
    → IsBranched (lane p l).instructions
branched_each u p sound l =
    elim (cases_lt l (length p)) [
      | inl lt ↦ sound.plan.branched l lt
      | inr past ↦ subst (λ (of : Lane). IsBranched of.instructions)
          (sym (get_or_past p l no_lane past))
          (record { stands = λ k x e. absurd (none-some x e); closed = refl })
    ]

stands_each : (u : Universe) (p : Plan) → IsSound u p → (w : World) → IsReached u p w → (l : ℕ)
    → IsStand (instruction_at p l (world_lane w l).done)
stands_each u p sound w r l =
    elim (cases_lt l (length p)) [
      | inl lt ↦ stands_in u p sound w r l lt
      | inr past ↦ subst (λ (of : Lane). IsStand (slice_get of.instructions (world_lane w l).done))
          (sym (get_or_past p l no_lane past)) tt
    ]

pub lanes_stand_after_steps : LanesStandAfterSteps
unfolding archive_step
lanes_stand_after_steps u p =
    record {
      start = λ l. or_right _ _ (ap (is_place_after_step (lane p l)) (begins u p l));
      kept =
          λ sound w next l r all e. let of = lane p l in
          let branched = branched_each u p sound l in
          let st = ready u of (world_lane w l) in
          after_turn u p w next l st (at_turn u of branched (has_bit w.words) st) branched all
          (comes u of branched false (drop (world_lane w l).done of.instructions)
          (world_lane w l) (has_bit w.words) (stands_each u p sound w r l) refl) refl e;
    }
