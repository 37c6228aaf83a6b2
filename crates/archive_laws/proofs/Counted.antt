-- How many outputs a lane has made, and which comes next: local instructions make none.
use Rattle.std.proofs.Common.{◌≡◌, inl, inr, ℕ, suc, ◌<◌, Bool, true, false, List, [], ◌∷◌, length, drop, Some, slice_get, refl, sym, ap, subst, ◌∙◌, arith, get_or-set_same}
use Rattle.std.proofs.lemmas.Option.{same_Some}
use Rattle.farm_model.specs.Common.{Universe, outputs}
use Rattle.farm_model.specs.declared.types.Variant.{Variant}
use Rattle.plan_model.specs.Common.{IsBranched, Lane, Plan, lane, outputs_of, events_of, lane_outputs, LaneState, Turn, Goes, Gives, Waits, Ends, Fails, turn_of, no_state, IsSound, World, world_lane, nothing, goes_on, settled}
use Rattle.plan_model.specs.declared.instructions.Instruction.{Instruction}
use Rattle.plan_model.specs.declared.instructions.Instruction.TheVariants.{Configure, Deconfigure, Remove, Build, Publish, Otherwise, EndWhen}
use Rattle.farm_laws.specs.EventsLeft.{StandsAt, InPlace}
use Rattle.farm_laws.proofs.EventsLeft.{fresh_place}
use Rattle.farm_laws.proofs.Branches.{arrives-stands}
use Rattle.farm_laws.proofs.Places.{IsQuiet, IsWhen, leads_to, GoesOn, GivesOne, PlaceMove, turn_place}
use Rattle.archive_laws.specs.LaneMoves.{outputs_made}
use Rattle.archive_laws.specs.Shown.{IsReached, with_lane, ready_lane}
use Rattle.archive_laws.proofs.Settles.{ready_reached}
use Rattle.archive_laws.proofs.Skips.{next_of, going_on, standing_on, next_on, goes_behind}
use Rattle.archive_laws.proofs.Stands.{place_stands}
pub use Rattle.archive_laws.proofs.Stands.{in_place}
use Rattle.archive_laws.proofs.OutputPlaces.{before, before_next, before_arrives, output_there}

module _ (u : Universe) where
  -- an instruction that goes on has one event and no output
  quiet_one : (there : Variant → Bool) (x : Instruction) → IsQuiet u there x
      → (length (outputs_of u x) ≡ 0) × (events_of u x ≡ 1)
  quiet_one there (Publish r) q = absurd q
  quiet_one there Otherwise q = absurd q
  quiet_one there EndWhen q = absurd q
  quiet_one there _ q = (refl, refl)

  -- what a lane has made where its turn goes on
  pub goes_count : (of : Lane) → IsBranched of.instructions → (there : Variant → Bool)
      (st next : LaneState) (x : Instruction)
      → slice_get of.instructions st.done ≡ Some x → InPlace u of.instructions st.done st.made
      → turn_of u there of st (Some x) ≡ Goes next
      → outputs_made u of next ≡ outputs_made u of st
  goes_count of branched there st next x at place is =
      let g : GoesOn u there of st (Some x) next =
      subst (PlaceMove u there of st (Some x)) is (turn_place u there of st (Some x)) in
      let y : slice_get of.instructions st.done ≡ Some g.instruction = at ∙ g.is in
      let q = quiet_one there g.instruction g.quiet in
      let here : st.made < 1 = subst (λ n. st.made < n) q.1
      (subst (λ o. StandsAt u o st.made) y place) in
      let d = before_arrives u of branched st.done g.instruction next.done y (leads_to g) in
      let m = g.made in
      omega (arith, d, m, here, q.0, before_next u of.instructions st.done g.instruction y)

  -- and where it gives an output
  pub gives_count : (of : Lane) → IsBranched of.instructions → (there : Variant → Bool)
      (st next : LaneState) (x : Instruction) (v : Variant)
      → slice_get of.instructions st.done ≡ Some x
      → InPlace u of.instructions st.done st.made → turn_of u there of st (Some x) ≡ Gives next v
      → (outputs_made u of next ≡ suc (outputs_made u of st))
      × (slice_get (lane_outputs u of) (outputs_made u of st) ≡ Some v)
  gives_count of branched there st next x v at place is =
      let g : GivesOne u of st (Some x) next v =
      subst (PlaceMove u there of st (Some x)) is (turn_place u there of st (Some x)) in
      let e : x ≡ Publish g.recipe = same_Some _ _ g.is in
      let there_is : slice_get of.instructions st.done ≡ Some (Publish g.recipe) = at ∙ g.is in
      let b = before_next u of.instructions st.done (Publish g.recipe) there_is in
      let here : st.made < length (outputs u g.recipe) =
      subst (λ o. StandsAt u o st.made) there_is place in (
        elim g.place [
          | inl more ↦
              let d : before u of.instructions next.done ≡ before u of.instructions st.done =
              ap (before u of.instructions) more.1 in
              let m = more.2 in
              omega arith
          | inr last ↦
              let d : before u of.instructions next.done ≡ before u of.instructions (suc st.done) =
              before_arrives u of branched st.done (Publish g.recipe) next.done there_is
              (inl last.1) in
              let m = last.2 in
              let n = last.0 in
              omega arith
        ],
        output_there u of.instructions st.done st.made (Publish g.recipe) v there_is g.output,
      )

module _ (u : Universe) (p : Plan) (sound : IsSound u p) (l : ℕ) (in_plan : l < length p) where
  -- what is to show of the instructions that it goes on to: local ones make no output
  abbrev CountsOn : Bool → List Instruction → LaneState → Type 0
  CountsOn skips xs st =
      InPlace u (lane p l).instructions st.done st.made
      → going_on false (drop st.done (lane p l).instructions) ≡ going_on skips xs
      → outputs_made u (lane p l) (settled u (lane p l) skips xs st) ≡ outputs_made u (lane p l) st

  local_count : (x : Instruction) (xs : List Instruction) (st : LaneState) (turn : Turn)
      → ((next : LaneState) → CountsOn false xs next) → (IsWhen x → ⊥)
      → InPlace u (lane p l).instructions st.done st.made
      → going_on false (drop st.done (lane p l).instructions) ≡ x ∷ xs
      → turn_of u nothing (lane p l) st (Some x) ≡ turn
      → outputs_made u (lane p l) (goes_on st turn (λ next. settled u (lane p l) false xs next))
      ≡ outputs_made u (lane p l) st
  local_count x xs st (Goes next) after plain place at e =
      let of = lane p l in
      let branched = sound.plan.branched l in_plan in
      let here : drop st.done of.instructions ≡ x ∷ xs =
      sym (standing_on of.instructions st.done (place_stands u _ st.made place)) ∙ at in
      let behind = goes_behind u nothing of st next x plain e in
      let g : GoesOn u nothing of st (Some x) next =
      subst (PlaceMove u nothing of st (Some x)) e (turn_place u nothing of st (Some x)) in
      let fresh : InPlace u of.instructions next.done next.made =
      subst (λ k. InPlace u of.instructions next.done k) (sym g.made)
      (fresh_place u p sound l next.done in_plan
      (arrives-stands of branched st.done x next.done (inl behind))) in
      after next fresh (next_on of st.done next.done x xs here behind)
      ∙ goes_count u of branched nothing st next x
      (next_of of.instructions st.done x xs here).0 place e
  local_count x xs st (Gives next v) after plain place at e = refl
  local_count x xs st Waits after plain place at e = refl
  local_count x xs st Ends after plain place at e = refl
  local_count x xs st (Fails trap) after plain place at e = refl

  counts_on : (skips : Bool) (xs : List Instruction) (st : LaneState) → CountsOn skips xs st
  counts_on true [] st place at = refl
  counts_on true (EndWhen ∷ xs) st place at = counts_on false xs st place at
  counts_on true (x ∷ xs) st place at = counts_on true xs st place at
  counts_on false (Otherwise ∷ xs) st place at = counts_on true xs st place at
  counts_on false (EndWhen ∷ xs) st place at = counts_on false xs st place at
  counts_on false (Configure members ∷ xs) st place at =
      local_count (Configure members) xs st _ (λ n. counts_on false xs n) (λ a. a) place at refl
  counts_on false (Deconfigure members ∷ xs) st place at =
      local_count (Deconfigure members) xs st _ (λ n. counts_on false xs n) (λ a. a) place at refl
  counts_on false (Remove members ∷ xs) st place at =
      local_count (Remove members) xs st _ (λ n. counts_on false xs n) (λ a. a) place at refl
  counts_on false (Build recipe ∷ xs) st place at =
      local_count (Build recipe) xs st _ (λ n. counts_on false xs n) (λ a. a) place at refl
  counts_on false _ st place at = refl

  -- so of the instructions that are left
  pub settled_count : (xs : List Instruction) (st : LaneState)
      → InPlace u (lane p l).instructions st.done st.made
      → drop st.done (lane p l).instructions ≡ xs
      → outputs_made u (lane p l) (settled u (lane p l) false xs st) ≡ outputs_made u (lane p l) st
  settled_count xs st place at = counts_on false xs st place (ap (going_on false) at)

  -- a lane at its next archive step has made what it had made
  pub ready_count : (w : World) → IsReached u p w
      → outputs_made u (lane p l) (ready_lane u p w l) ≡ outputs_made u (lane p l) (world_lane w l)
  ready_count w r =
      settled_count (drop (world_lane w l).done (lane p l).instructions) (world_lane w l)
      (in_place u p sound w r l in_plan) refl

  -- and stands at a place
  pub ready_place : (w : World) → IsReached u p w
      → InPlace u (lane p l).instructions (ready_lane u p w l).done (ready_lane u p w l).made
  ready_place w r =
      let st = ready_lane u p w l in
      let here : world_lane (with_lane w l st) l ≡ st =
      get_or-set_same w.lanes l st no_state (omega (arith, r.lanes, in_plan)) in
      subst (λ (x : LaneState). InPlace u (lane p l).instructions x.done x.made) here
      (in_place u p sound (with_lane w l st) (ready_reached u p sound l in_plan w r) l in_plan)
