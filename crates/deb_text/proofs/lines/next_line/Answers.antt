use Rattle.std.proofs.Common.{sym, ◌∙◌}
use Rattle.std.proofs.lemmas.Bool.{eqb-true, eqb-false}
use Rattle.deb_text.proofs.LineLaws.{line_empty, line_found, line_last, lines_of-empty}
use Rattle.deb_text.proofs.lines.next_line.Goals as goal

pub returns-then-is_empty-clause-none : goal.returns-then-is_empty-clause-none
returns-then-is_empty-clause-none c =
    lines_of-empty c.args.text.now (eqb-true _ _ (sym c.is_empty.ensures ∙ c.if-is_empty.true))

pub returns-then-text-eq10-clause-line : goal.returns-then-text-eq10-clause-line
returns-then-text-eq10-clause-line c =
    line_empty c.args.text.now (eqb-false _ _ (sym c.is_empty.ensures ∙ c.if-is_empty.false))
    c.if-text-eq10.true

pub returns-in-Some-clause-line : goal.returns-in-Some-clause-line
returns-in-Some-clause-line c =
    line_found c.args.text.now c.in-Some.end c.in-Some.ensures
    (eqb-false _ _ (sym c.is_empty.ensures ∙ c.if-is_empty.false))

pub returns-in-None-clause-line : goal.returns-in-None-clause-line
returns-in-None-clause-line c =
    line_last c.args.text.now c.in-None.ensures
    (eqb-false _ _ (sym c.is_empty.ensures ∙ c.if-is_empty.false))
