use Rattle.std.proofs.Common.{◌∙◌, sym, arith}
use Rattle.clause_kernel.proofs.Blocks.{some_pair-past_block}
use Rattle.clause_kernel.proofs.compare.some_pair.Goals as goal

pub loop-at-preserved : goal.loop-at-preserved
loop-at-preserved g c = (
  omega arith,
  some_pair-past_block g.T.PairTest.test c.args.a.now c.args.b.now c.loop-at.at
      c.requires (omega arith) (sym c.any_lane.ensures ∙ c.if-any_lane.false)
      ∙ c.loop-at.invariant.1,
)
