use Rattle.farm_executor.proofs.scope.some_unstarted.Given as goal

abbrev pub invariant-loop-number : goal.invariant-loop-number
invariant-loop-number g l = Unit {0}
