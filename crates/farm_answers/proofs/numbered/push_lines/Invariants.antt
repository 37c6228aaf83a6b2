use Rattle.std.proofs.Common.{◌≡◌, ◌++◌, false, drop}
use Rattle.farm_answers.specs.Numbered.{numbered_lines}
use Rattle.farm_answers.proofs.numbered.push_lines.Given as goal

abbrev pub invariant-loop-place : goal.invariant-loop-place
invariant-loop-place l =
    l.text.items
    ++ numbered_lines l.universe l.lines.lanes l.number l.inside l.place
    (drop l.place l.instructions)
    ≡ l.fn.text.items
    ++ numbered_lines l.universe l.lines.lanes l.number false 0 l.instructions
