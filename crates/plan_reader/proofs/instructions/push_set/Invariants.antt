use Rattle.std.proofs.Common.{◌≡◌, ◌++◌, drop}
use Rattle.plan_reader.specs.Listing.{names_text}
use Rattle.plan_reader.proofs.instructions.push_set.Given as goal

abbrev pub invariant-loop-i : goal.invariant-loop-i
invariant-loop-i l =
    l.text.items ++ names_text l.universe (drop l.i l.members)
    ≡ l.fn.text.items ++ (l.word ++ names_text l.universe l.members)
