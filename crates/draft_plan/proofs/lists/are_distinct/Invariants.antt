use Rattle.std.proofs.Common.{◌≡◌, drop}
use Rattle.plan_model.specs.Sound.{has_double}
use Rattle.draft_plan.proofs.lists.are_distinct.Given as goal

abbrev pub invariant-loop-place : goal.invariant-loop-place
invariant-loop-place l = has_double (drop l.place l.recipes) ≡ has_double l.recipes
