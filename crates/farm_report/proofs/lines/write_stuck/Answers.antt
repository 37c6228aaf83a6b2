use Rattle.std.proofs.Common.{[], ◌∷◌, sym}
use Rattle.std.specs.Prelude.{codes}
use Rattle.deb_text.specs.Common.{lists, spaced}
use Rattle.report_sink.proofs.SeriesLaws.{first_fails, second_fails, three_written}
use Rattle.farm_report.specs.AnswerLines.{stuck_words}
use Rattle.farm_report.proofs.lines.write_stuck.Goals as goal

pub returns-in_err-write_pieces-clause-written : goal.returns-in_err-write_pieces-clause-written
returns-in_err-write_pieces-clause-written g c =
    first_fails stuck_words _ _
    (rw (c.as_bytes.ensures.value, c.format-code.ensures.text) at c.write_pieces.ensures.written)
    (spaced (lists c.args.lanes.now) ∷ codes "\n" ∷ []) (sym c.in_err-write_pieces.ensures.told)

pub returns-in_err-write_names-clause-written : goal.returns-in_err-write_names-clause-written
returns-in_err-write_names-clause-written g c =
    second_fails stuck_words _ _
    (rw (c.as_bytes.ensures.value, c.format-code.ensures.text) at c.write_pieces.ensures.written)
    (spaced (lists c.args.lanes.now)) _ c.write_names.ensures.written
    (codes "\n" ∷ []) (sym c.in_err-write_names.ensures.told)

pub returns-clause-written : goal.returns-clause-written
returns-clause-written g c =
    three_written stuck_words _ _
    (rw (c.as_bytes.ensures.value, c.format-code.ensures.text) at c.write_pieces.ensures.written)
    (spaced (lists c.args.lanes.now)) _ c.write_names.ensures.written
    (codes "\n") _ c.write_text.ensures.written
