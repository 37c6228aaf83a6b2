use Rattle.may_rows.specs.Joins.{BothBelow}
use Rattle.may_rows.proofs.join.join_built.Given as goal

abbrev pub invariant-loop-recipe : goal.invariant-loop-recipe
invariant-loop-recipe l = BothBelow l.first l.initial.built l.recipe l.built
