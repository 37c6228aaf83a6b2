use Rattle.std.proofs.Common.{◌≡◌, ◌+◌, ◌≤◌, length}
use Rattle.deb_text.specs.Common.{traverse, with_front, words}
use Rattle.farm_answers.specs.Turns.{placed_from, turn_of}
use Rattle.farm_answers.proofs.turns.read_words.Given as goal

abbrev pub invariant-loop-word : goal.invariant-loop-word
invariant-loop-word l = record {
  same : with_front l.turns.items
      (traverse (turn_of l.plan.lanes) (placed_from l.line l.place (words l.rest)))
      ≡ with_front l.fn.turns.items
      (traverse (turn_of l.plan.lanes) (placed_from l.line 1 (words l.text)));
  in_range : l.place + length l.rest ≤ 1 + length l.text;
}

abbrev pub decreases-loop-word : goal.decreases-loop-word
decreases-loop-word l = length l.rest
