use Rattle.std.proofs.Common.{Ok, ap, ◌∙◌}
use Rattle.cross_index.proofs.finish.judge_piece.Goals as goal

pub returns : goal.returns
returns c = record {
  paragraph = c.in_ok-judge_only.ensures.0;
  read = c.in-Ok.ensures ∙ ap Ok c.in_ok-judge_only.ensures.1;
  closed = c.in_ok-judge_closed.ensures;
  such = c.in_ok-judge_only.ensures.2;
}
