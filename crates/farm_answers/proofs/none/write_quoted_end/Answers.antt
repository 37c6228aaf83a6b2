use Rattle.std.proofs.Common.{◌++◌, codes, sym}
use Rattle.farm_answers.proofs.none.write_quoted_end.Goals as goal
use Rattle.shown_text.specs.Escapes.{quoted}
use Rattle.report_sink.proofs.WriteLaws.{cut_short, written_twice}

pub returns-in_err-write_quoted-clause-written : goal.returns-in_err-write_quoted-clause-written
returns-in_err-write_quoted-clause-written g c =
    cut_short _ _ (quoted c.args.name.now) (c.args.words.now ++ codes "\",\"verdict\":\"none\"}\n") c.write_quoted.ensures.written
    (sym c.in_err-write_quoted.ensures.told)

pub returns-clause-written : goal.returns-clause-written
returns-clause-written g c =
    written_twice _ _ _ (quoted c.args.name.now) (c.args.words.now ++ codes "\",\"verdict\":\"none\"}\n")
    c.write_quoted.ensures.written c.write_pieces.ensures.written
