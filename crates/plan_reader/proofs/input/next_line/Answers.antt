use Rattle.std.proofs.Common.{sym, ◌∙◌}
use Rattle.std.proofs.lemmas.Bool.{eqb-false}
use Rattle.plan_reader.proofs.InputLaws.{line_found, line_last}
use Rattle.plan_reader.proofs.input.next_line.Goals as goal

pub returns-in-Some-clause-line : goal.returns-in-Some-clause-line
returns-in-Some-clause-line c =
    rw (c.split_at.ensures.front, c.split_at.ensures.back)
    (line_found c.args.text.now c.in-Some.end c.in-Some.ensures)

pub returns-in-None-clause-line : goal.returns-in-None-clause-line
returns-in-None-clause-line c =
    line_last c.args.text.now c.in-None.ensures
    (eqb-false _ _ (sym c.is_empty.ensures ∙ c.if-is_empty.false))
