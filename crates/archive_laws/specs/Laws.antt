-- The laws of lanes and their records. The project's own rules. Parameters: u a universe, p a plan,
-- rows what its lanes know, l a lane, st its state.
--
--   LoadsAreInBounds        what bounds the words that lanes load
--   MeetsNoTrap             a lane that keeps to its may map, over such a word
--   LeadsOn                 a lane's way to its next archive step
--   NextOutputIsByNumber    the next output of a lane, among all that it makes
use Rattle.std.specs.Prelude.{◌≡◌, ℕ, ◌<◌, Bool, true, false, List, [], ◌∷◌, length, drop, Option, Some, slice_get}
use Rattle.deb_relation.specs.declared.operator.Op.{Op}
use Rattle.farm_model.specs.Common.{Universe, variant, names, word_has}
use Rattle.farm_model.specs.declared.types.Variant.{Variant}
use Rattle.farm_laws.specs.EventsLeft.{InPlace}
use Rattle.farm_laws.specs.Agrees.{Agrees, AgreesAfter}
use Rattle.plan_model.specs.Common.{Rows, possible, Lane, Plan, lane, instruction_at, next_place, lane_outputs, IsAnnotation, IsSound, LaneState, Goes, turn_of, nothing, ready, is_archive_step}
use Rattle.plan_model.specs.declared.instructions.Instruction.{Instruction}
use Rattle.plan_model.specs.declared.instructions.Instruction.TheVariants.{Unpack, When}
use Rattle.archive_laws.specs.LaneMoves.{outputs_made, seen}
use Rattle.archive_laws.specs.Records.{Record, next_output}
use Rattle.archive_laws.specs.Bounds.{IsRecord, IsLoaded, IsInBounds}

-- a word that a lane of an annotated plan loads is within bounds
abbrev pub LoadsAreInBounds : Type 0
LoadsAreInBounds =
    (u : Universe) (p : Plan) (rows : Rows) → IsSound u p → IsAnnotation u p rows → (l : ℕ)
    → l < length p → (st : LaneState) (n found : ℕ) → IsLoaded u p l st n found
    → IsInBounds u p rows l st n found

-- Of a lane that keeps to its may map:
pub record MeetsNoTrap (u : Universe) (p : Plan) (rows : Rows) (l : ℕ) (st : LaneState)
    : Type 0 where
  -- over an archive that has what is known and nothing but what is possible, its turn meets no trap
  -- and it keeps to its may map;
  pub turn : (there : Variant → Bool) (x : Instruction) → instruction_at p l st.done ≡ Some x
      → ((v : Variant) → rows l st.done v ≡ true → there v ≡ true)
      → ((v : Variant) → there v ≡ true → possible u p l st.done v ≡ true)
      → AgreesAfter u p rows l (turn_of u there (lane p l) st (Some x))
  -- an unpack does so over the word of its name alone;
  pub unpack : (n found : ℕ) (wanted : Option (Op × List ℕ))
      → instruction_at p l st.done ≡ Some (Unpack n wanted)
      → ((b : ℕ) → rows l st.done (variant n b) ≡ true → word_has found b ≡ true)
      → ((b : ℕ) → word_has found b ≡ true → possible u p l st.done (variant n b) ≡ true)
      → AgreesAfter u p rows l (turn_of u (seen n found) (lane p l) st (Some (Unpack n wanted)))
  -- so does a `when`.
  pub when : (n found : ℕ) (wanted : Option (Op × List ℕ))
      → instruction_at p l st.done ≡ Some (When n wanted)
      → ((b : ℕ) → rows l st.done (variant n b) ≡ true → word_has found b ≡ true)
      → ((b : ℕ) → word_has found b ≡ true → possible u p l st.done (variant n b) ≡ true)
      → AgreesAfter u p rows l (turn_of u (seen n found) (lane p l) st (Some (When n wanted)))

abbrev pub NoTrapWithinBounds : Type 0
NoTrapWithinBounds =
    (u : Universe) (p : Plan) (rows : Rows) → IsSound u p → IsAnnotation u p rows → (l : ℕ)
    → l < length p → (st : LaneState) → Agrees u p rows l st
    → InPlace u (lane p l).instructions st.done st.made → MeetsNoTrap u p rows l st

-- A lane with these instructions left:
pub record LeadsOn (u : Universe) (of : Lane) (st : LaneState) (left : List Instruction)
    : Type 0 where
  -- at its end it is ready,
  pub end : left ≡ [] → ready u of st ≡ st
  -- and so it is at an archive step;
  pub there : (x : Instruction) (rest : List Instruction) → left ≡ x ∷ rest
      → is_archive_step x ≡ true → ready u of st ≡ st
  -- a local instruction that goes on leaves it on its way.
  pub next : (x : Instruction) (rest : List Instruction) (after : LaneState) → left ≡ x ∷ rest
      → is_archive_step x ≡ false → turn_of u nothing of st (Some x) ≡ Goes after
      → after.done ≡ next_place of st.done → ready u of after ≡ ready u of st

abbrev pub LocalStepsLeadOn : Type 0
LocalStepsLeadOn =
    (u : Universe) (of : Lane) (st : LaneState) → LeadsOn u of st (drop st.done of.instructions)

-- The output that comes next is the lane's next one by number, and a variant of the universe.
pub record IsNext (u : Universe) (p : Plan) (l : ℕ) (r : Record) (v : Variant) : Type 0 where
  pub there : slice_get (lane_outputs u (lane p l)) (outputs_made u (lane p l) r.at) ≡ Some v
  pub named : v.name < names u
  pub bit : v.bit < 64

abbrev pub NextOutputIsByNumber : Type 0
NextOutputIsByNumber =
    (u : Universe) (p : Plan) → IsSound u p → (l : ℕ) (r : Record) (v : Variant)
    → IsRecord u p l r → next_output u p l r.at ≡ Some v → IsNext u p l r v
