use Rattle.std.proofs.Common.{◌≡◌, length}
use Rattle.explain_faults.specs.Found.{above, is_about, items_of, outputs_of}
use Rattle.explain_faults.specs.Paragraphs.{place_from, viewed}
use Rattle.explain_faults.proofs.farm_faults.item_found.Given as goal

abbrev pub invariant-loop-given : goal.invariant-loop-given
invariant-loop-given l =
    place_from (is_about l.part.universe.now l.part.code (outputs_of l.part.universe.now
    (above l.part.paragraph.among.now l.part.paragraph.place))) 0
    (items_of l.part.code l.part.paragraph.place (viewed l.part.paragraph))
    ≡ place_from (is_about l.part.universe.now l.part.code l.given.items) l.place l.items

abbrev pub decreases-loop-given : goal.decreases-loop-given
decreases-loop-given l = length l.items
