use Rattle.std.proofs.Common.{sym, ◌∙◌}
use Rattle.plan_reader.proofs.Landings.{land-past, land-otherwise, land-end, land-here}
use Rattle.plan_reader.proofs.landing.landing.Goals as goal

pub returns-then-place-instructions-clause-place : goal.returns-then-place-instructions-clause-place
returns-then-place-instructions-clause-place c =
    land-past c.args.instructions.now c.args.place c.if-place-instructions.true

pub returns-then-is_otherwise-clause-place : goal.returns-then-is_otherwise-clause-place
returns-then-is_otherwise-clause-place c =
    c.past_end.ensures.place ∙ land-otherwise c.args.instructions.now c.args.place
    c.index-instructions-place.result c.if-place-instructions.false c.index-instructions-place.is
    (sym c.is_otherwise.ensures ∙ c.if-is_otherwise.true)

pub returns-then-is_end_when-clause-place : goal.returns-then-is_end_when-clause-place
returns-then-is_end_when-clause-place c =
    land-end c.args.instructions.now c.args.place
    c.index-instructions-place.result c.if-place-instructions.false
    c.index-instructions-place.is (sym c.is_end_when.ensures ∙ c.if-is_end_when.true)

pub returns-clause-place : goal.returns-clause-place
returns-clause-place c =
    land-here c.args.instructions.now c.args.place c.index-instructions-place.result
    c.if-place-instructions.false c.index-instructions-place.is
    (sym c.is_otherwise.ensures ∙ c.if-is_otherwise.false)
    (sym c.is_end_when.ensures ∙ c.if-is_end_when.false)
