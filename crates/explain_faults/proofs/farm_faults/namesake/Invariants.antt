use Rattle.std.proofs.Common.{◌≡◌, length}
use Rattle.std.specs.List.{list_any}
use Rattle.explain_faults.specs.Found.{above, is_namesake}
use Rattle.explain_faults.specs.Paragraphs.{viewed}
use Rattle.explain_faults.proofs.farm_faults.namesake.Given as goal

abbrev pub invariant-loop-other : goal.invariant-loop-other
invariant-loop-other l =
    list_any (is_namesake (viewed l.paragraph)) (above l.paragraph.among.now l.paragraph.place)
    ≡ list_any (is_namesake (viewed l.paragraph)) l.above

abbrev pub decreases-loop-other : goal.decreases-loop-other
decreases-loop-other l = length l.above
