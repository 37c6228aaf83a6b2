use Rattle.std.proofs.Common.{◌≡◌, ◌++◌, length}
use Rattle.std.specs.Prelude.{All}
use Rattle.farm_model.specs.Sound.{IsKnown}
use Rattle.explain_faults.specs.Found.{above, outputs_of}
use Rattle.explain_faults.proofs.parts.outputs_above.Given as goal

abbrev pub invariant-loop-recipe : goal.invariant-loop-recipe
invariant-loop-recipe l = record {
  same : outputs_of l.universe (above l.paragraph.among.now l.paragraph.place)
      ≡ l.given.items ++ outputs_of l.universe l.above;
  known : All (IsKnown l.universe) l.given.items;
}

abbrev pub decreases-loop-recipe : goal.decreases-loop-recipe
decreases-loop-recipe l = length l.above
