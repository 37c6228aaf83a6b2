use Rattle.std.proofs.Common.{◌-◌, true, false}
use Rattle.sat_rows.proofs.RangeLaws.{IsBetween}
use Rattle.sat_rows.proofs.word.equal_range.Given as goal

abbrev pub invariant-loop-low : goal.invariant-loop-low
invariant-loop-low l =
    IsBetween l.universe l.name l.bound false l.low l.high
    × IsBetween l.universe l.name l.bound true l.low l.high

abbrev pub decreases-loop-low : goal.decreases-loop-low
decreases-loop-low l = l.high - l.low
