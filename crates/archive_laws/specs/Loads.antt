-- What one word of the archive decides: an unpack and a `when` look at the word of their name
-- alone, and a wait passes on any one word. The project's own rules.
use Rattle.std.specs.Prelude.{◌≡◌, ℕ, Bool, true, List, Option, Some}
use Rattle.deb_relation.specs.Relations.{Entry}
use Rattle.deb_relation.specs.declared.operator.Op.{Op}
use Rattle.farm_model.specs.Common.{Universe, variant, satisfies_entry, IsKnown}
use Rattle.farm_model.specs.declared.types.Variant.{Variant}
use Rattle.plan_model.specs.Common.{Lane, LaneState, Goes, past, turn_of}
use Rattle.plan_model.specs.declared.instructions.Instruction.TheVariants.{Unpack, Wait, When}

-- An instruction that looks at the archive, `there`:
pub record OneWordDecides (u : Universe) (of : Lane) (st : LaneState)
    (there : Variant → Bool) : Type 0 where
  -- an unpack takes the same turn over any archive that has the same variants of its name;
  pub unpack : (name : ℕ) (wanted : Option (Op × List ℕ)) (other : Variant → Bool)
      → ((b : ℕ) → there (variant name b) ≡ other (variant name b))
      → turn_of u there of st (Some (Unpack name wanted)) ≡ turn_of u other of st
      (Some (Unpack name wanted))
  -- so does a `when`;
  pub when : (name : ℕ) (wanted : Option (Op × List ℕ)) (other : Variant → Bool)
      → ((b : ℕ) → there (variant name b) ≡ other (variant name b))
      → turn_of u there of st (Some (When name wanted)) ≡ turn_of u other of st
      (Some (When name wanted))
  -- a wait passes where one variant that is there satisfies it.
  pub wait : (entry : Entry) (v : Variant) → IsKnown u v → there v ≡ true
      → satisfies_entry u entry v ≡ true
      → turn_of u there of st (Some (Wait entry)) ≡ Goes (past of st 0 st.chroot)

abbrev pub EachWordDecides : Type 0
EachWordDecides =
    (u : Universe) (of : Lane) (st : LaneState) (there : Variant → Bool)
    → OneWordDecides u of st there
