use Rattle.std.proofs.Common.{◌≡◌, drop}
use Rattle.deb_text.specs.Steps.{steps}
use Rattle.farm_universe.proofs.steps.read_steps.Given as goal

abbrev pub invariant-loop-number : goal.invariant-loop-number
invariant-loop-number g l = record {
  so_far : steps (g.S.ParagraphStep.step l.step) (g.S.ParagraphStep.said l.so_far)
      (drop l.number l.paragraphs)
      ≡ steps (g.S.ParagraphStep.step l.step) (g.S.ParagraphStep.said l.fn.empty)
      (drop l.first l.paragraphs);
  kept : g.S.ParagraphStep.fits l.step l.so_far;
}
