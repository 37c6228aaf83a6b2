-- Legs of a chain, one after another.
use Rattle.std.proofs.Common.{◌≡◌, List, ◌∷◌}
use Rattle.leg_runs.specs.declared.leg.LegTexts.{LegTexts}
use Rattle.leg_runs.specs.Reads.{text_of}
use Rattle.leg_answers.specs.Stories.{AreSeams, IsSeam}

-- the first of them goes on from the one before
pub next_seam : (first next : LegTexts) (legs : List LegTexts)
    → IsSeam (text_of first) (text_of next) → AreSeams next legs → AreSeams first (next ∷ legs)
next_seam first next legs seam seams = (seam, seams)
