-- The plan that a text stands for, and its first fault (the project's own format): the lines that
-- are neither blank nor comments, one after the other. Parameters: u a universe, r what was read so
-- far.
--
--   take_line u r line     what is read with one more line, or the line's fault
--   plan_of u text         the plan of a text, or its first fault
use Rattle.std.specs.Prelude.{ℕ, List, [], ◌∷◌, Result, Err, codes, if◌then◌else◌}
use Rattle.deb_stanza.specs.Plain.{plain_lines_at}
use Rattle.deb_text.specs.Common.{fault_at, placed, Line, ◌>>=◌, steps, is_head}
use Rattle.deb_text.specs.declared.fault.Fault.{Fault}
use Rattle.farm_universe.specs.Told.{in_file}
use Rattle.farm_model.specs.Universe.{Universe}
use Rattle.plan_reader.specs.declared.error.TheConstants.{FILE, NO_PLAN}
use Rattle.plan_reader.specs.Drafts.{Reading, unread, take_form}
use Rattle.plan_reader.specs.Ends.{finished}
use Rattle.plan_reader.specs.Forms.{form_at}
use Rattle.plan_model.specs.Plan.{Plan}

-- what is read with one more line, or the code of the line's fault
unfoldable pub take_text : Universe → ℕ → Reading → List ℕ → Result Reading ℕ
take_text u number r line = form_at line >>= take_form u number r

-- what is read with one more line, or the line's fault
abbrev pub take_line : Universe → Reading → Line → Result Reading Fault
take_line u r (number, line) = placed FILE number (take_text u number r line)

-- what the lines behind the first one come to
unfoldable pub reading_of : Universe → List Line → Result Reading Fault
reading_of u ls = steps (take_line u) unread ls

-- the plan, where nothing is left open
abbrev pub end_of : Reading → Result Plan Fault
end_of r = finished r.draft.lanes r.draft.current r.side

-- the first line is `plan 1`, and nothing is left open at the end
abbrev pub plan_in : Universe → List Line → Result Plan Fault
plan_in u [] = Err (fault_at FILE 0 NO_PLAN)
plan_in u ((number, line) ∷ ls) =
    if is_head (codes "plan") line then (reading_of u ls >>= end_of)
    else Err (fault_at FILE number NO_PLAN)

-- the plan of a text, or its first fault
unfoldable pub plan_of : Universe → List ℕ → Result Plan Fault
plan_of u text = in_file FILE (plain_lines_at text) >>= plan_in u
