use Rattle.std.proofs.Common.{◌≡◌, ◌++◌, map, take}
use Rattle.plan_cert.specs.declared.events.Event.{Event}
use Rattle.plan_cert.proofs.events.push_outputs.Given as goal

-- the outputs so far
abbrev pub invariant-loop-output : goal.invariant-loop-output
invariant-loop-output l =
    l.events.items
    ≡ l.initial.events.items ++ map Event.Give (take l.output-index l.outputs)
