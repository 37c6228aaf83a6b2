use Rattle.std.proofs.Common.{Ok, ap, ◌∙◌}
use Rattle.cross_index.proofs.index.piece_of.Goals as goal

pub returns-in_default : goal.returns-in_default
returns-in_default c = c.in-Ok.ensures ∙ ap Ok c.in_default.is

pub returns : goal.returns
returns c =
    (c.in-Some.binary, c.in-Ok.ensures ∙ ap Ok c.in-Some.is, c.in_ok-piece.ensures)
