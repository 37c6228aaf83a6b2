use Rattle.std.proofs.Common.{arith}
use Rattle.sat_rows.proofs.RangeLaws.{goes_up, goes_down, none_counted}
use Rattle.sat_rows.proofs.word.count_before.Goals as goal

pub returns-then-name-names : goal.returns-then-name-names
returns-then-name-names c =
    none_counted c.args.universe.now c.args.name c.args.bound.now c.args.or_equal
    (omega (arith, c.if-name-names.true, c.names.ensures.number))

pub loop-low-preserved-then-is_before : goal.loop-low-preserved-then-is_before
loop-low-preserved-then-is_before c =
    goes_up c.args.universe.now c.args.name c.args.bound.now c.args.or_equal
    c.names.ensures.kept.in_order c.loop-low.low c.loop-low.high _ c.loop-low.invariant
    (omega arith)
    (omega (arith, c.loop-low-test.true))
    (cc (
      c.is_before.ensures,
      c.compare.ensures.order,
      c.view.ensures,
      c.version-version.ensures,
      c.if-is_before.true,
    ))

pub loop-low-preserved : goal.loop-low-preserved
loop-low-preserved c =
    goes_down c.args.universe.now c.args.name c.args.bound.now c.args.or_equal
    c.names.ensures.kept.in_order c.loop-low.low c.loop-low.high _ c.loop-low.invariant
    (omega arith)
    (omega (arith, c.loop-low-test.true))
    (cc (
      c.is_before.ensures,
      c.compare.ensures.order,
      c.view.ensures,
      c.version-version.ensures,
      c.if-is_before.false,
    ))
