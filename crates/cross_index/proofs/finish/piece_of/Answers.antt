use Rattle.cross_index.proofs.finish.piece_of.Goals as goal

pub returns : goal.returns
returns c = (c.in-Ok.binary, c.in-Ok.ensures, c.in_ok-piece.ensures)
