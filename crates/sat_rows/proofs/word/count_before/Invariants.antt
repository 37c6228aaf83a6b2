use Rattle.std.proofs.Common.{◌-◌}
use Rattle.sat_rows.proofs.RangeLaws.{IsBetween}
use Rattle.sat_rows.proofs.word.count_before.Given as goal

abbrev pub invariant-loop-low : goal.invariant-loop-low
invariant-loop-low l = IsBetween l.universe l.name l.bound l.or_equal l.low l.high

abbrev pub decreases-loop-low : goal.decreases-loop-low
decreases-loop-low l = l.high - l.low
