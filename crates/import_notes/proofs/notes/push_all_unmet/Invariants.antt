use Rattle.import_notes.proofs.NoteLaws.{AreNoted}
use Rattle.import_notes.proofs.notes.push_all_unmet.Given as goal

abbrev pub invariant-loop-unmet : goal.invariant-loop-unmet
invariant-loop-unmet l =
    AreNoted l.farm.unmet.now l.unmet-index l.seen l.initial.text.items l.text.items
