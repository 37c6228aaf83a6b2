-- From which lines of its text the instructions of a plan come (the project's own format): each from
-- the line that says it, and one that a block brings in also from the `use` in the lane.
--
--   Kind, kind_of form    what a line does, and that of a form
--   LineReading           what the lines so far say
--   reading_with r line   what they say with one more; a line without a form says nothing
--   PlanLines, lines_of   the lines of a plan, those of a plan's text
--   origin_at ls l i      where an instruction comes from
use Rattle.std.specs.Prelude.{ℕ, Bool, true, false, List, [], ◌∷◌, ◌++◌, map, fold, slice_get, Option, None, Some, Result, Ok, Err, if◌then◌else◌, ◌||◌}
use Rattle.std.specs.Option.{option_and_then}
use Rattle.deb_text.specs.Lines.{Line, plain_lines}
use Rattle.plan_reader.specs.declared.origin.Origin.{Origin}
use Rattle.plan_reader.specs.Drafts.{BlockOf, block_named}
use Rattle.plan_reader.specs.Forms.{Wording, WhenForm, Form, BlockForm, LaneForm, EndForm, UseForm, InstructionForm, form_at}

-- a lane: the line that opens it, where its instructions come from, and the line of its `end`
pub record LaneLines : Type 0 where
  pub head : ℕ
  pub origins : List Origin
  pub end : ℕ

-- this line, brought in by the `use` of another where there is one
abbrev pub from_line : Option ℕ → ℕ → Origin
from_line used number = record { line = number; used = used }

-- what a line does
pub data Kind : Type 0 where
  OpensBlock : (name : List ℕ) → Kind
  OpensLane : Kind
  Ends : Kind
  Uses : (name : List ℕ) → Kind
  -- it says an instruction, which may open branches
  Says : (opens : Bool) → Kind

abbrev pub opens_branches : Wording → Bool
opens_branches (WhenForm name relation) = true
opens_branches wording = false

abbrev pub kind_of : Form → Kind
kind_of (BlockForm name) = OpensBlock name
kind_of (LaneForm name chroot budget) = OpensLane
kind_of EndForm = Ends
kind_of (UseForm name) = Uses name
kind_of (InstructionForm wording) = Says (opens_branches wording)

-- what is open, with the lines in it so far: a block of this name, or a lane that opens at this line
pub data Open : Type 0 where
  Nothing : Open
  InBlock : (name lines : List ℕ) → Open
  InLane : (head : ℕ) (origins : List Origin) → Open

-- the lines of each block that has ended, with those of the blocks that it uses; the lanes that have
-- ended; what is open; and whether the next line stands inside a branch
pub record LineReading : Type 0 where
  pub blocks : List (BlockOf ℕ)
  pub lanes : List LaneLines
  pub current : Open
  pub inside : Bool

-- before the first line
abbrev pub no_lines_read : LineReading
no_lines_read = record { blocks = []; lanes = []; current = Nothing; inside = false }

abbrev pub or_no_lines : Result (List ℕ) ℕ → List ℕ
or_no_lines (Ok lines) = lines
or_no_lines (Err code) = []

-- these lines come into what is open, brought in by the `use` of a line where there is one
abbrev pub add_to : Open → Option ℕ → List ℕ → Open
add_to Nothing used ns = Nothing
add_to (InBlock name lines) used ns = InBlock name (lines ++ ns)
add_to (InLane head origins) used ns = InLane head (origins ++ map (from_line used) ns)

-- they do, and the next line stands inside a branch or not
abbrev pub add_lines : Option ℕ → List ℕ → Bool → LineReading → LineReading
add_lines used ns inside r = record r { current = add_to r.current used ns; inside = inside }

-- what is open ends at a line
abbrev pub end_of : Open → ℕ → LineReading → LineReading
end_of Nothing number r = r
end_of (InBlock name lines) number r = record r {
  blocks = r.blocks ++ record { name = name; body = lines } ∷ [];
  current = Nothing;
}
end_of (InLane head origins) number r = record r {
  lanes = r.lanes ++ record { head = head; origins = origins; end = number } ∷ [];
  current = Nothing;
}

-- with one more line, of this number and kind; an `end` is that of the branch, or else of the block
-- or lane
unfoldable pub take_kind : ℕ → Kind → LineReading → LineReading
take_kind number (OpensBlock name) r = record r { current = InBlock name []; inside = false }
take_kind number OpensLane r = record r { current = InLane number []; inside = false }
take_kind number Ends r =
    if r.inside then add_lines None (number ∷ []) false r else end_of r.current number r
take_kind number (Uses name) r =
    add_lines (Some number) (or_no_lines (block_named r.blocks name)) r.inside r
take_kind number (Says opens) r = add_lines None (number ∷ []) (opens || r.inside) r

-- the same, where the line has a form
abbrev pub take_read : ℕ → Result Form ℕ → LineReading → LineReading
take_read number (Ok form) r = take_kind number (kind_of form) r
take_read number (Err code) r = r

-- with one more line
abbrev pub reading_with : LineReading → Line → LineReading
reading_with r (number, line) = take_read number (form_at line) r

-- the line that says `plan 1`, and the lanes in file order
pub record PlanLines : Type 0 where
  pub first : ℕ
  pub lanes : List LaneLines

-- where the instruction at a place of a lane comes from
abbrev pub origin_at : List LaneLines → ℕ → ℕ → Option Origin
origin_at lanes lane place =
    option_and_then (λ (l : LaneLines). slice_get l.origins place) (slice_get lanes lane)

-- what the lines of a plan say, the first of them being `plan 1`
abbrev pub lines_in : List Line → PlanLines
lines_in [] = record { first = 0; lanes = [] }
lines_in ((number, line) ∷ ls) = record {
  first = number;
  lanes = (fold reading_with no_lines_read ls).lanes;
}

-- what those lines of a text say that are neither blank nor comments
unfoldable pub lines_of : List ℕ → PlanLines
lines_of text = lines_in (plain_lines 1 text)
