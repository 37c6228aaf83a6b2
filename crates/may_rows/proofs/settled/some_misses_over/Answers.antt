use Rattle.std.proofs.Common.{◌||◌, get_or, take_all, sym, ap, ◌∙◌, arith}
use Rattle.std.specs.List.{list_any}
use Rattle.std.proofs.lemmas.List.Folds.{list_any_more}
use Rattle.may_rows.specs.Met.{may_serve}
use Rattle.may_rows.proofs.settled.some_misses_over.Goals as goal

pub loop-place-preserved : goal.loop-place-preserved
loop-place-preserved c n b e is =
    let p = may_serve c.args.universe.now e in
    list_any_more p c.args.over.now c.loop-place.place 0 c.loop-place-test.true
    ∙ ap (λ t. t || p (get_or c.args.over.now c.loop-place.place 0))
    (c.loop-place.invariant n b e is)
    ∙ c.misses_over.ensures.none c.if-misses_over.false n b e is

pub returns-clause-none : goal.returns-clause-none
returns-clause-none c none n b e is =
    ap (list_any (may_serve c.args.universe.now e))
    (sym (take_all c.loop-place.place c.args.over.now (omega arith)))
    ∙ c.loop-place.invariant n b e is
