use Rattle.std.proofs.Common.{◌≡◌, false}
use Rattle.farm_model.specs.Below.{some_below}
use Rattle.may_rows.specs.Words.{may_of}
use Rattle.may_rows.specs.Met.{misses_at}
use Rattle.may_rows.proofs.settled.some_misses.Given as goal

abbrev pub invariant-loop-name : goal.invariant-loop-name
invariant-loop-name l = some_below l.name (misses_at l.universe (may_of l.state)) ≡ false
