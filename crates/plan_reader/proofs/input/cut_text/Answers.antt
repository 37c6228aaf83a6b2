use Rattle.std.proofs.Common.{sym, ◌∙◌}
use Rattle.plan_reader.proofs.CutText.{starts, goes, ends}
use Rattle.plan_reader.proofs.input.cut_text.Goals as goal

pub loop-line-init : goal.loop-line-init
loop-line-init c = starts c.args.input.now

pub loop-line-preserved : goal.loop-line-preserved
loop-line-preserved c =
    goes c.args.input.now c.loop-line.rest.now c.in-Some.line.now c.in-Some.behind.now
    c.in-Some.ensures.both c.in-Some.ensures.line
    (sym c.is_divider.ensures ∙ c.if-is_divider.false) c.loop-line.invariant

pub returns-clause-text : goal.returns-clause-text
returns-clause-text c =
    (ends c.args.input.now c.loop-line.rest.now c.in_default.ensures.none c.loop-line.invariant).0

pub returns-clause-rest : goal.returns-clause-rest
returns-clause-rest c =
    (ends c.args.input.now c.loop-line.rest.now c.in_default.ensures.none c.loop-line.invariant).1
