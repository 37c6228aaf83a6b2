use Rattle.cross_index.proofs.PieceLaws.{only-one}
use Rattle.cross_index.proofs.finish.judge_only.Goals as goal

pub returns : goal.returns
returns c = (
  c.new-new.result,
  only-one c.args.news.now c.new-new.result c.in_ok-judge_count.ensures c.new-new.ensures,
  c.in_ok-judge_finished.ensures,
)
