use Rattle.std.proofs.Common.{◌≡◌, ◌++◌, map, take}
use Rattle.known_rows.specs.Marks.{output_with}
use Rattle.known_rows.proofs.marks.push_outputs.Given as goal

-- the outputs so far
abbrev pub invariant-loop-variant : goal.invariant-loop-variant
invariant-loop-variant l =
    l.found.items
    ≡ l.initial.found.items ++ map (output_with l.point) (take l.variant-index l.given)
