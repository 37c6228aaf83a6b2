use Rattle.std.proofs.Common.{◌≡◌}
use Rattle.std.specs.List.{filter, range_with_len}
use Rattle.draft_plan.specs.Wanted.{is_free}
use Rattle.draft_plan.proofs.wanted.rest_of.Given as goal

-- those so far
abbrev pub invariant-loop-recipe : goal.invariant-loop-recipe
invariant-loop-recipe l = l.rest.items ≡ filter (is_free l.lanes) (range_with_len 0 l.recipe)
