-- A lane of an annotated plan meets no trap, whatever words it loads within bounds.
use Rattle.std.proofs.Common.{◌≡◌, ◌≢◌, ◌⊎◌, inl, inr, ℕ, ◌<◌, Bool, true, List, length, Option, Some, refl, sym, subst, arith}
use Rattle.std.specs.Prelude.{if◌then◌else◌, ◌==◌}
use Rattle.std.proofs.lemmas.Bool.{cases_eq, eq-eqb, ne_eqb}
use Rattle.std.proofs.lemmas.Option.{slice_get_within}
use Rattle.deb_relation.specs.declared.operator.Op.{Op}
use Rattle.farm_model.specs.Common.{Universe, variant, word_has}
use Rattle.farm_model.specs.declared.types.Variant.{Variant}
use Rattle.plan_model.specs.Common.{Plan, lane, instruction_at, LaneState, turn_of, Rows, possible, IsAnnotation, IsSound}
use Rattle.plan_model.specs.declared.instructions.Instruction.{Instruction}
use Rattle.plan_model.specs.declared.instructions.Instruction.TheVariants.{Unpack, When}
use Rattle.farm_laws.specs.EventsLeft.{InPlace, StandsAt}
use Rattle.farm_laws.specs.Agrees.{Agrees, AgreesAfter}
use Rattle.farm_laws.proofs.Safe.{turn_agrees}
use Rattle.farm_laws.proofs.Whole.{joins_at, safe_at}
use Rattle.verdict_laws.proofs.Unions.{known_are_possible}
use Rattle.archive_laws.proofs.OneWord.{each_word_decides}
use Rattle.archive_laws.specs.LaneMoves.{seen}
use Rattle.archive_laws.specs.Laws.{NoTrapWithinBounds}

module _ (u : Universe) (p : Plan) (rows : Rows) (sound : IsSound u p)
    (annotation : IsAnnotation u p rows) (l : ℕ) (in_plan : l < length p) (st : LaneState)
    (agrees : Agrees u p rows l st)
    (place : InPlace u (lane p l).instructions st.done st.made) where
  -- what is known is possible, where the lane has an instruction left
  within : (x : Instruction) → instruction_at p l st.done ≡ Some x → (v : Variant)
      → rows l st.done v ≡ true → possible u p l st.done v ≡ true
  within x at v e =
      let lt = slice_get_within (lane p l).instructions st.done x at in
      known_are_possible u p rows annotation.keeps l st.done v in_plan
      (omega arith) e

  -- over any archive that has what is known and nothing but what is possible
  pub turn_safe : (there : Variant → Bool) (x : Instruction)
      → instruction_at p l st.done ≡ Some x
      → ((v : Variant) → rows l st.done v ≡ true → there v ≡ true)
      → ((v : Variant) → there v ≡ true → possible u p l st.done v ≡ true)
      → AgreesAfter u p rows l
      (turn_of u there (lane p l) st (Some x))
  turn_safe there x at below above =
      turn_agrees u p rows l st there (sound.plan.branched l in_plan)
      (joins_at u p rows annotation.safe l in_plan) agrees x at
      (subst (λ o. StandsAt u o st.made) at place) below (λ _. above)
      (safe_at u p rows annotation.safe l st.done x in_plan at)

  -- so an instruction that does not look at the archive meets no trap
  pub local_safe : (x : Instruction) → instruction_at p l st.done ≡ Some x
      → AgreesAfter u p rows l
      (turn_of u (rows l st.done) (lane p l) st (Some x))
  local_safe x at = turn_safe (rows l st.done) x at (λ v k. k) (within x at)

  -- the word of one name, and for the others what is known
  abbrev mixed : ℕ → ℕ → Variant → Bool
  mixed n found v = if v.name == n then word_has found v.bit else rows l st.done v

  mixed_is : (n found b : ℕ) → mixed n found (variant n b) ≡ seen n found (variant n b)
  mixed_is n found b = rw (eq-eqb n n refl) refl

  -- an instruction meets none over a word within bounds, and what is known,
  mixed_safe : (x : Instruction) (n found : ℕ) → instruction_at p l st.done ≡ Some x
      → ((b : ℕ) → rows l st.done (variant n b) ≡ true → word_has found b ≡ true)
      → ((b : ℕ) → word_has found b ≡ true
      → possible u p l st.done (variant n b) ≡ true)
      → AgreesAfter u p rows l (turn_of u (mixed n found) (lane p l) st (Some x))
  mixed_safe x n found at below above =
      turn_safe (mixed n found) x at
      (λ v k. known v k (cases_eq v.name n)) (λ v k. may v k (cases_eq v.name n))
    where
      known : (v : Variant) → rows l st.done v ≡ true → (v.name ≡ n) ⊎ (v.name ≢ n)
          → mixed n found v ≡ true
      known v k (inl is) =
          rw (eq-eqb v.name n is)
          (below v.bit (subst (λ m. rows l st.done (variant m v.bit) ≡ true) is k))
      known v k (inr apart) = rw (ne_eqb v.name n apart) k

      may : (v : Variant) → mixed n found v ≡ true → (v.name ≡ n) ⊎ (v.name ≢ n)
          → possible u p l st.done v ≡ true
      may v k (inl is) =
          subst (λ m. possible u p l st.done (variant m v.bit) ≡ true) (sym is)
          (above v.bit (rw (eq-eqb v.name n is) at k))
      may v k (inr apart) = within x at v (rw (ne_eqb v.name n apart) at k)

  -- so an unpack and a `when` meet none over the word of their name
  pub unpack_safe : (n found : ℕ) (wanted : Option (Op × List ℕ))
      → instruction_at p l st.done ≡ Some (Unpack n wanted)
      → ((b : ℕ) → rows l st.done (variant n b) ≡ true → word_has found b ≡ true)
      → ((b : ℕ) → word_has found b ≡ true
      → possible u p l st.done (variant n b) ≡ true)
      → AgreesAfter u p rows l
      (turn_of u (seen n found) (lane p l) st (Some (Unpack n wanted)))
  unpack_safe n found wanted at below above =
      subst (AgreesAfter u p rows l)
      ((each_word_decides u (lane p l) st (mixed n found)).unpack n wanted
      (seen n found) (mixed_is n found))
      (mixed_safe (Unpack n wanted) n found at below above)

  pub when_safe : (n found : ℕ) (wanted : Option (Op × List ℕ))
      → instruction_at p l st.done ≡ Some (When n wanted)
      → ((b : ℕ) → rows l st.done (variant n b) ≡ true → word_has found b ≡ true)
      → ((b : ℕ) → word_has found b ≡ true
      → possible u p l st.done (variant n b) ≡ true)
      → AgreesAfter u p rows l
      (turn_of u (seen n found) (lane p l) st (Some (When n wanted)))
  when_safe n found wanted at below above =
      subst (AgreesAfter u p rows l)
      ((each_word_decides u (lane p l) st (mixed n found)).when n wanted
      (seen n found) (mixed_is n found))
      (mixed_safe (When n wanted) n found at below above)

-- a lane that keeps to its may map meets no trap
pub no_trap_within_bounds : NoTrapWithinBounds
no_trap_within_bounds u p rows sound annotation l lt st agrees place =
    record {
      turn = turn_safe u p rows sound annotation l lt st agrees place;
      unpack = unpack_safe u p rows sound annotation l lt st agrees place;
      when = when_safe u p rows sound annotation l lt st agrees place;
    }
