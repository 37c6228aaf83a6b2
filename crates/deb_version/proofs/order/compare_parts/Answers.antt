use Rattle.std.proofs.Common.{sym, ◌∙◌}
use Rattle.std.proofs.lemmas.Bool.{eqb-true, eqb-false}
use Rattle.deb_version.proofs.RunLaws.{part_cmp-nil, after_run-shorter, settled, passes, is-equal}
use Rattle.deb_version.proofs.order.compare_parts.Goals as goal

pub returns-then-are_used_up : goal.returns-then-are_used_up
returns-then-are_used_up c =
    let none = eqb-true _ _ (sym c.are_used_up.ensures ∙ c.if-are_used_up.true) in
    sym (part_cmp-nil c.loop-xs.xs.now c.loop-xs.ys.now none) ∙ c.loop-xs.invariant

pub returns-then-is_ne : goal.returns-then-is_ne
returns-then-is_ne c =
    settled c.loop-xs.xs.now c.loop-xs.ys.now _ _ c.compare_runs-order.ensures.order
    (sym c.is_ne.ensures ∙ c.if-is_ne.true) c.loop-xs.invariant

pub loop-xs-preserved : goal.loop-xs-preserved
loop-xs-preserved c =
    let eq = sym c.is_ne.ensures ∙ c.if-is_ne.false in
    let rest = c.compare_runs-order.ensures.rest (is-equal _ eq) in
    passes c.loop-xs.xs.now c.loop-xs.ys.now _ _ _ _ c.compare_runs-order.ensures.order eq
    rest.0 rest.1 c.loop-xs.invariant

pub loop-xs-smaller : goal.loop-xs-smaller
loop-xs-smaller c =
    let eq = sym c.is_ne.ensures ∙ c.if-is_ne.false in
    let rest = c.compare_runs-order.ensures.rest (is-equal _ eq) in
    let some = eqb-false _ _ (sym c.are_used_up.ensures ∙ c.if-are_used_up.false) in
    rw (rest.0, rest.1) (after_run-shorter c.loop-xs.xs.now c.loop-xs.ys.now some)
