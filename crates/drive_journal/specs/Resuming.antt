-- How a run goes on by its journal. Parameters: head the head that its texts give, stamp the time
-- of a beginning, old and new the journal before and after.
--
--   IsCut, IsLeft   a file that is cut to so many of its first bytes; what a cut that fails leaves
--   IsResumed       the run that goes on, and what the journal holds then
--   IsRefused       why none does, and what the journal keeps
use Rattle.std.specs.Prelude.{◌≡◌, ◌⊎◌, ℕ, ◌≤◌, List, [], ◌++◌, take, Option, Some, IfSome}
use Rattle.std.specs.Option.{option_map}
use Rattle.std.specs.Io.KnownBytes.{Appends}
use Rattle.deb_text.specs.Lines.{lines_of}
use Rattle.drive_journal.specs.HeadText.{Finding, IsFresh, IsKnown, IsMisfit, finding, run_line}
use Rattle.drive_journal.specs.Entries.{whole}
use Rattle.drive_journal.specs.declared.start.Resumed.{Resumed}
use Rattle.drive_journal.specs.declared.start.StoreFault.{StoreFault}
use Rattle.drive_journal.specs.declared.start.StoreFault.TheVariants.{Misfit}
use Rattle.report_sink.specs.Sinks.{SinkState}

abbrev pub taken : ℕ → Option (List ℕ) → Option (List ℕ)
taken n bytes = option_map (λ held. take n held) bytes

abbrev pub IsCut : SinkState → SinkState → ℕ → Type 0
IsCut old new n = new.contents ≡ taken n old.contents

-- all that was held, or a first part of it that still has so many bytes
abbrev pub IsLeft : SinkState → SinkState → ℕ → Type 0
IsLeft old new count =
    (new.contents ≡ old.contents) ⊎ ((kept : ℕ) × (count ≤ kept) × IsCut old new kept)

-- the head and the line of the run are put behind what the journal holds
abbrev pub IsBegun : List ℕ → List ℕ → SinkState → SinkState → Type 0
IsBegun head stamp old new = Appends old.contents new.contents (head ++ run_line stamp)

-- a first part of these is
abbrev pub IsBegunInPart : List ℕ → List ℕ → SinkState → SinkState → Type 0
IsBegunInPart head stamp old new =
    (part rest : List ℕ) × (head ++ run_line stamp ≡ part ++ rest)
    × Appends old.contents new.contents part

-- By what is found of its text, the run that goes on, and the bytes that its journal has then:
abbrev pub GoesOn : List ℕ → List ℕ → List ℕ → Finding → Option (List ℕ) → Resumed → Type 0
-- nothing was asked by then: it begins;
GoesOn head stamp text IsFresh bytes run =
    (run.stamp.items ≡ stamp) × (run.entries.items ≡ [])
    × (bytes ≡ Some (head ++ run_line stamp))
-- it is of these texts: its whole lines stay;
GoesOn head stamp text (IsKnown name lines) bytes run =
    (run.stamp.items ≡ name) × (lines_of run.entries.items ≡ lines) × (bytes ≡ Some (whole text))
-- it is of others: none does.
GoesOn head stamp text (IsMisfit line) bytes run = ⊥

abbrev pub IsResumed : List ℕ → List ℕ → SinkState → SinkState → Resumed → Type 0
IsResumed head stamp old new run =
    IfSome old.contents (λ text. GoesOn head stamp text (finding head text) new.contents run)

-- ---- no run goes on

-- these bytes are a first part of a text
abbrev pub ArePartOf : List ℕ → Option (List ℕ) → Type 0
ArePartOf text bytes = (part rest : List ℕ) × (text ≡ part ++ rest) × (bytes ≡ Some part)

-- By what is found of its text, the bytes that the journal keeps:
abbrev pub Keeps : List ℕ → List ℕ → List ℕ → Finding → Option (List ℕ) → Type 0
-- nothing was asked by then: a first part of that text, or of the lines of a beginning;
Keeps head stamp text IsFresh bytes =
    ArePartOf text bytes ⊎ ArePartOf (head ++ run_line stamp) bytes
-- it is of these texts: its whole lines, and perhaps some of what was torn;
Keeps head stamp text (IsKnown name lines) bytes =
    (torn : List ℕ) × (bytes ≡ Some (whole text ++ torn))
-- it is of others: all.
Keeps head stamp text (IsMisfit line) bytes = bytes ≡ Some text

-- a line that is told is the first that does not fit, and nothing was written or cut
abbrev pub IsRightMisfit : List ℕ → SinkState → SinkState → StoreFault → Type 0
IsRightMisfit head old new (Misfit line) =
    (new ≡ old) × IfSome old.contents (λ text. finding head text ≡ IsMisfit line)
IsRightMisfit head old new _ = Unit {0}

pub record IsRefused (head stamp : List ℕ) (old new : SinkState) (fault : StoreFault)
    : Type 0 where
  pub misfit : IsRightMisfit head old new fault
  pub keeps : IfSome old.contents (λ text. Keeps head stamp text (finding head text) new.contents)

abbrev pub IsNoMisfit : StoreFault → Type 0
IsNoMisfit (Misfit line) = ⊥
IsNoMisfit _ = Unit {0}
