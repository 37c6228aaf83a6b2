use Rattle.std.proofs.Common.{◌≡◌, drop}
use Rattle.plan_model.specs.Branches.{past_end}
use Rattle.plan_reader.proofs.landing.past_end.Given as goal

abbrev pub invariant-loop-next : goal.invariant-loop-next
invariant-loop-next l =
    past_end (drop l.place l.instructions) l.place ≡ past_end (drop l.next l.instructions) l.next
