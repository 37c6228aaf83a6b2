-- The certificate that a text stands for, or its first fault (the project's own format): the lines
-- that are neither blank nor comments are `cert 1`, one line for the row behind each wait, publish
-- and `when` of each lane in order, and the items of the order. A missing line is told at the line
-- that stands in its place, or one past the last line. Parameters: u the universe, p the plan, end
-- the number of the line past the last.
--
--   rows_in u end name places ls     the rows of a lane, by the first lines
--   certificate_of u p text          the certificate of a text, or its first fault
use Rattle.std.specs.Prelude.{ℕ, ◌+◌, List, [], ◌∷◌, length, drop, Option, Result, Ok, Err, ok_or, codes, if◌then◌else◌}
use Rattle.std.specs.List.{sum_by}
use Rattle.deb_stanza.specs.Plain.{plain_lines_at}
use Rattle.deb_text.specs.Common.{Line, lines_of, ◌>>=◌, then_all, traverse, is_head}
use Rattle.deb_text.specs.declared.fault.Fault.{Fault}
use Rattle.farm_model.specs.Universe.{Universe}
use Rattle.plan_model.specs.Plan.{Plan}
use Rattle.cert_text.specs.declared.fault.CertFault.{CertFault}
use Rattle.cert_text.specs.declared.fault.CertFault.TheVariants.{Text}
use Rattle.cert_text.specs.CertLines.{known_row, order_lane}
use Rattle.cert_text.specs.Certificates.{Certificate, row_places, count_rows}

-- what a line says, or that it may not stand there
abbrev pub told_on_line : {X : Type 0} → ℕ → Option X → Result X CertFault
told_on_line number says = ok_or says (Text number)

-- the row that the first line says
abbrev pub first_row : Universe → ℕ → List ℕ → ℕ → List Line → Result (List ℕ) CertFault
first_row u end name place [] = Err (Text end)
first_row u end name place ((number, line) ∷ ls) = told_on_line number (known_row u name place line)

-- the rows of a lane, by the first lines
abbrev pub rows_in : Universe → ℕ → List ℕ → List ℕ → List Line
    → Result (List (List ℕ)) CertFault
rows_in u end name [] ls = Ok []
rows_in u end name (place ∷ places) ls =
    then_all (first_row u end name place ls) (rows_in u end name places (drop 1 ls))

-- the rows of the lanes, by the first lines
abbrev pub lanes_in : Universe → ℕ → Plan → List Line → Result (List (List (List ℕ))) CertFault
lanes_in u end [] ls = Ok []
lanes_in u end (of ∷ p) ls =
    then_all (rows_in u end of.name (row_places of) ls) (lanes_in u end p (drop (count_rows of) ls))

-- the lane of a line of the order
abbrev pub order_at : Plan → Line → Result ℕ CertFault
order_at p (number, line) = told_on_line number (order_lane p line)

-- behind the first line: the rows, and then the order
unfoldable pub rest_in : Universe → Plan → ℕ → List Line → Result Certificate CertFault
rest_in u p end ls = do
  rows ← lanes_in u end p ls
  order ← traverse (order_at p) (drop (sum_by count_rows p) ls)
  Ok (record { rows = rows; order = order })

abbrev pub certificate_in : Universe → Plan → ℕ → List Line → Result Certificate CertFault
certificate_in u p end [] = Err (Text end)
certificate_in u p end ((number, line) ∷ ls) =
    if is_head (codes "cert") line then rest_in u p end ls else Err (Text number)

-- the fault of a text is told at its line
abbrev pub in_text : {X : Type 0} → Result X Fault → Result X CertFault
in_text (Ok x) = Ok x
in_text (Err fault) = Err (Text fault.line)

-- the certificate of a text, or its first fault
unfoldable pub certificate_of : Universe → Plan → List ℕ → Result Certificate CertFault
certificate_of u p text =
    in_text (plain_lines_at text) >>= certificate_in u p (length (lines_of text) + 1)
