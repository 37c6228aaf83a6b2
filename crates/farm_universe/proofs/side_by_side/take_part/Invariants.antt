use Rattle.std.proofs.Common.{◌≡◌, ◌+◌, ◌++◌, drop, length}
use Rattle.deb_text.specs.Steps.{steps}
use Rattle.farm_universe.proofs.side_by_side.take_part.Given as goal

abbrev pub invariant-loop-part : goal.invariant-loop-part
invariant-loop-part g l =
    (goal.iterator-loop-part g).can_next l.part-iterator
    × (goal.iterator-loop-part g).is_finite l.part-iterator
    × record {
      number : l.number ≡ l.first + length l.yielded;
      rest : l.fn.parts.items ≡ l.yielded ++ l.part-iterator.rest.items;
      so_far : steps (g.S.ParagraphStep.step l.step) (g.S.ParagraphStep.said l.so_far)
          (drop l.number l.paragraphs)
          ≡ steps (g.S.ParagraphStep.step l.step) (g.S.ParagraphStep.said l.fn.so_far)
          (drop l.first l.paragraphs);
      kept : g.S.ParagraphStep.fits l.step l.so_far;
    }
