use Rattle.std.proofs.Common.{◌≡◌, length}
use Rattle.farm_executor.proofs.scope.flags.Given as goal

abbrev pub invariant-loop : goal.invariant-loop
invariant-loop l = length l.flags.items ≡ l.counter
