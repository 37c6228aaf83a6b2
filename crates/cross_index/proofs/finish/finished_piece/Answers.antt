use Rattle.std.proofs.Common.{ℕ, List, subst}
use Rattle.cross_index.specs.Finished.{IsFinishedAs}
use Rattle.cross_index.specs.Pieces.{IsReadAs}
use Rattle.cross_index.proofs.finish.finished_piece.Goals as goal

pub returns : goal.returns
returns c =
    subst (λ (text : List ℕ). IsReadAs
    (IsFinishedAs c.args.sides.now c.args.all.now c.args.binary.now c.args.old.now) text)
    c.deref.ensures.value c.in_ok-judge_piece.ensures
