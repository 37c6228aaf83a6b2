use Rattle.explain_warnings.proofs.indexes.note_all.Given as goal

abbrev pub decreases-loop-above : goal.decreases-loop-above
decreases-loop-above g l = l.pieces.size
