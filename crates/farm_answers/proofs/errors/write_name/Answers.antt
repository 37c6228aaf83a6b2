use Rattle.std.proofs.Common.{◌++◌, codes, sym}
use Rattle.farm_answers.proofs.errors.write_name.Goals as goal
use Rattle.shown_text.specs.Escapes.{escaped}
use Rattle.report_sink.proofs.WriteLaws.{cut_short, written_twice}

pub returns-in_err-write_escaped-clause-written : goal.returns-in_err-write_escaped-clause-written
returns-in_err-write_escaped-clause-written g c =
    cut_short _ _ (escaped c.args.name.now) (c.args.words.now ++ codes "\n") c.write_escaped.ensures.written
    (sym c.in_err-write_escaped.ensures.told)

pub returns-clause-written : goal.returns-clause-written
returns-clause-written g c =
    written_twice _ _ _ (escaped c.args.name.now) (c.args.words.now ++ codes "\n")
    c.write_escaped.ensures.written c.write_pieces.ensures.written
