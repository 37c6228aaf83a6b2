use Rattle.std.proofs.Common.{◌≡◌, ◌+◌, ◌≤◌, length}
use Rattle.deb_text.specs.Common.{lines_of, traverse}
use Rattle.farm_answers.specs.Turns.{turn_of, words_in}
use Rattle.farm_answers.proofs.TurnLaws.{all_turns}
use Rattle.farm_answers.proofs.turns.read_lines.Given as goal

abbrev pub invariant-loop-content : goal.invariant-loop-content
invariant-loop-content l = record {
  same : all_turns l.plan.lanes l.turns.items l.line (lines_of l.rest)
      ≡ traverse (turn_of l.plan.lanes) (words_in l.text);
  in_range : l.line + length l.rest ≤ 1 + length l.text;
}

abbrev pub decreases-loop-content : goal.decreases-loop-content
decreases-loop-content l = length l.rest
