use Rattle.std.proofs.Common.{◌≡◌, drop}
use Rattle.plan_model.specs.Branches.{past_else}
use Rattle.plan_reader.proofs.landing.past_else.Given as goal

abbrev pub invariant-loop-next : goal.invariant-loop-next
invariant-loop-next l =
    past_else (drop l.place l.instructions) l.place ≡ past_else (drop l.next l.instructions) l.next
