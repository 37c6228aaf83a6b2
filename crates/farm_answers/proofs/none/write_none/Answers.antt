use Rattle.std.proofs.Common.{codes, sym}
use Rattle.farm_answers.proofs.none.write_none.Goals as goal
use Rattle.farm_answers.specs.NoneLines.{quoted_end}
use Rattle.report_sink.proofs.WriteLaws.{cut_short, written_twice}

pub returns-in_err-write_text : goal.returns-in_err-write_text
returns-in_err-write_text g c =
    cut_short _ _ (codes "{\"error\":\"cannot read ") (quoted_end c.args.name.now c.args.words.now)
    c.write_text.ensures.written (sym c.in_err-write_text.ensures.told)

pub returns : goal.returns
returns g c =
    written_twice _ _ _ (codes "{\"error\":\"cannot read ") (quoted_end c.args.name.now c.args.words.now)
    c.write_text.ensures.written c.write_quoted_end.ensures.written
