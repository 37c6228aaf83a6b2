-- No lane stands behind the end of its instructions.
use Rattle.std.proofs.Common.{◌≡◌, inl, inr, ℕ, zero, suc, ◌<◌, ◌≤◌, List, [], ◌∷◌, length, Some, slice_get, ap, arith}
use Rattle.std.proofs.lemmas.Option.{slice_get_within}
use Rattle.farm_model.specs.Universe.{Universe}
use Rattle.farm_model.specs.declared.types.Variant.{Variant}
use Rattle.plan_model.specs.Common.{Plan, lane, instruction_at, LaneState, Turn, Goes, Gives, Waits, Ends, Fails, archive, State, start, lane_state, step, Moved, Reachable, IsSound}
use Rattle.plan_model.specs.declared.instructions.Instruction.{Instruction}
use Rattle.plan_model.specs.declared.instructions.Instruction.TheVariants.{Publish}
use Rattle.farm_laws.specs.EventsLeft.{InPlaces}
use Rattle.farm_laws.proofs.EventsLeft.{places_at_start, state_at_start, step_places, put_each}
use Rattle.farm_laws.proofs.Branches.{arrives}
use Rattle.farm_laws.proofs.Places.{LeadsTo, GoesOn, GivesOne, PlaceMove, leads_to, turn_place}
use Rattle.farm_laws.proofs.Steps.{put, turn_at, After, step_keeps, run_keeps}

module _ (u : Universe) (p : Plan) (sound : IsSound u p) where
  abbrev IsWithin : ℕ → LaneState → Type 0
  IsWithin l st = st.done ≤ length (lane p l).instructions

  abbrev AllWithin : State → Type 0
  AllWithin s = (l : ℕ) → l < length p → IsWithin l (lane_state s l)

  record Holds (s : State) : Type 0 where
    pub places : InPlaces u p s
    pub within : AllWithin s

  -- where an instruction leads to is within the lane
  leads_within : (l k next : ℕ) (x : Instruction) → l < length p → instruction_at p l k ≡ Some x
      → LeadsTo (lane p l) k x next → next ≤ length (lane p l).instructions
  leads_within l k next x lt at leads =
      let is = (lane p l).instructions in
      arrives (lane p l) (sound.plan.branched l lt) (λ j. j ≤ length is)
      (λ j y there local le. omega (arith, slice_get_within is j y there)) k x next at
      (omega (arith, slice_get_within is k x at)) leads

  module _ (s : State) (l : ℕ) (in_plan : l < length p) (h : Holds s) where
    goes_within : (next : LaneState)
        → GoesOn u (archive u s.published) (lane p l) (lane_state s l)
        (instruction_at p l (lane_state s l).done) next → AllWithin (put s l next)
    goes_within next g =
        put_each p IsWithin s l next h.places.long in_plan h.within
        (leads_within l (lane_state s l).done next.done g.instruction in_plan g.is (leads_to g))

    gives_within : (next : LaneState) (v : Variant)
        → GivesOne u (lane p l) (lane_state s l) (instruction_at p l (lane_state s l).done) next v
        → AllWithin (put s l next)
    gives_within next v g =
        let at = slice_get_within (lane p l).instructions (lane_state s l).done _ g.is in
        put_each p IsWithin s l next h.places.long in_plan h.within (elim g.place [
          | inl more ↦ omega (arith, at, more.1)
          | inr last ↦ leads_within l (lane_state s l).done next.done (Publish g.recipe) in_plan
              g.is (inl last.1)
        ])

    turn_within : (turn : Turn)
        → PlaceMove u (archive u s.published) (lane p l) (lane_state s l)
        (instruction_at p l (lane_state s l).done) turn → After AllWithin s l turn
    turn_within (Goes next) g = goes_within next g
    turn_within (Gives next v) g = gives_within next v g
    turn_within Waits g = tt
    turn_within Ends g = tt
    turn_within (Fails t) g = tt

  step_within : (s t : State) (l : ℕ) → Holds s → step u p s l ≡ Moved t → Holds t
  unfolding turn_at
  step_within s t l h e = record {
    places = (step_places u p sound s t l h.places e).0;
    within = step_keeps u p AllWithin s t l e
        (λ lt. turn_within s l lt h (turn_at u p s l)
        (turn_place u (archive u s.published) (lane p l) (lane_state s l)
        (instruction_at p l (lane_state s l).done)));
  }

  at_start : Holds (start u p)
  at_start = record {
    places = places_at_start u p sound;
    within = λ l lt. let z = ap (λ (st : LaneState). st.done) (state_at_start u p sound l lt) in
        omega (arith, z);
  }

  -- in a reachable state each lane stands within its instructions
  pub lanes_are_within : (s : State) → Reachable u p s → (l : ℕ) → l < length p
      → (lane_state s l).done ≤ length (lane p l).instructions
  lanes_are_within s r =
      (run_keeps u p Holds (λ a b l h e. step_within a b l h e) r.0 (start u p) s r.1
      at_start).within
