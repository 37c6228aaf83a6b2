use Rattle.std.proofs.Common.{sym, subst}
use Rattle.cross_index.specs.Finished.{IsFinishedBy}
use Rattle.cross_index.proofs.finish.push_piece.Goals as goal

pub returns : goal.returns
returns c = (
  c.deref.result.now,
  c.in_ok-extend_from_slice.ensures.items,
  subst (IsFinishedBy c.args.sides.now c.args.all.now c.args.old.now) (sym c.deref.ensures.value)
      c.in_ok-piece.ensures,
)
