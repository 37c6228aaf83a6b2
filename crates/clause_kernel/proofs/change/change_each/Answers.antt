use Rattle.std.proofs.Common.{◌∙◌, ap, arith, ◌+◌}
use lib.ListN.{set}
use lib.Lanes.{put_chunk}
use Rattle.clause_kernel.proofs.Blocks.{changed_from, changed_from-block, changed_from-word}
use Rattle.clause_kernel.proofs.change.change_each.Goals as goal

pub loop-a-preserved : goal.loop-a-preserved
loop-a-preserved g c =
    let f = g.T.PairChange.change in
    let at = c.loop-a.at in
    let a = c.loop-a.a in
    let b = c.args.b.now in
    let is = c.loop-a.invariant in
    record {
      within = omega arith;
      rest = ap (λ block. changed_from f (at + 8) (put_chunk at a block) b) c.lanes-changed.ensures
          ∙ (changed_from-block f at a b (omega arith) (omega arith) ∙ is.rest);
      fits = is.fits;
    }

pub loop-at-preserved : goal.loop-at-preserved
loop-at-preserved g c =
    let f = g.T.PairChange.change in
    let at = c.loop-at.at in
    let a = c.loop-at.a in
    let b = c.args.b.now in
    let is = c.loop-at.invariant in
    record {
      within = omega arith;
      rest = ap (λ word. changed_from f (at + 1) (set a at word) b) c.word.ensures
          ∙ (changed_from-word f at a b (omega arith) (omega arith) ∙ is.rest);
      fits = is.fits;
    }
