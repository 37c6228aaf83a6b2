use Rattle.std.proofs.Common.{◌≡◌, false}
use Rattle.farm_model.specs.Below.{some_below}
use Rattle.may_rows.proofs.numbers.some_number.Given as goal

abbrev pub invariant-loop-number : goal.invariant-loop-number
invariant-loop-number g l = some_below l.number (g.T.NumberTest.test l.universe l.test) ≡ false
