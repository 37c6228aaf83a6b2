use Rattle.std.proofs.Common.{subst}
use Rattle.cross_index.specs.EncodedIndex.{IsPiece}
use Rattle.cross_index.proofs.piece.encoded_piece.Goals as goal

pub returns : goal.returns
returns c =
    subst (IsPiece c.args.sides.now c.args.is_archive c.args.binary.now c.args.old.now)
    c.deref.ensures.value c.in_ok-judge_piece.ensures
