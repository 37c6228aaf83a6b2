-- A walk over the instructions of a lane.
--
--   Answers         what is answered to an instruction
--   AreWordsFor     what is in the archive of the name that it unpacks, if it does
--   IsOfLane        the words of a place of a lane
use Rattle.std.specs.Prelude.{◌≡◌, ◌<◌, ◌≤◌, ◌^◌, Bool, length, Some, None, Result, Ok, Err}
use Rattle.farm_model.specs.Universe.{Universe}
use Rattle.farm_model.specs.declared.types.Variant.{Variant}
use Rattle.farm_model.specs.declared.types.Trap.{Trap}
use Rattle.plan_model.specs.Common.{Lane, May, may_after, risk}
use Rattle.plan_model.specs.declared.instructions.Instruction.{Instruction}
use Rattle.plan_model.specs.declared.instructions.Instruction.TheVariants.{Unpack}
use Rattle.sat_rows.specs.Rows.{IsWordFor}
use Rattle.may_rows.specs.declared.instruction.ArchiveWords.{ArchiveWords}
use Rattle.may_rows.specs.Words.{Words, AreWords}

-- the instruction is safe, and this is the map after it; or the first trap that it may meet
abbrev pub Answers : Universe → Lane → (known there : Variant → Bool) → May → Instruction → May
    → Result (Unit {0}) Trap → Type 0
Answers u of known there m x next (Ok done) =
    (risk u of known there m x ≡ None) × (may_after u known there m x ≡ next)
Answers u of known there m x next (Err trap) = risk u of known there m x ≡ Some trap

-- the words of the name that the instruction unpacks: of what is known, and of what may be there
abbrev pub AreWordsFor : Universe → (known there : Variant → Bool) → Instruction → ArchiveWords
    → Type 0
AreWordsFor u known there (Unpack name wanted) words =
    IsWordFor u known name words.known × IsWordFor u there name words.there
AreWordsFor u known there _ words = Unit {0}

-- words of the universe, within the budget of a lane that has a base chroot
pub record IsOfLane (u : Universe) (of : Lane) (w : Words) : Type 0 where
  pub based : of.base < length u.bases
  pub small : of.budget < 10 ^ 15
  pub words : AreWords u w
  pub within : w.cost ≤ of.budget
