use Rattle.std.proofs.Common.{◌≡◌, map, take}
use Rattle.serde_json.specs.View.{view}
use Rattle.explain_answers.specs.Facts.{about, reason_data}
use Rattle.explain_answers.proofs.note_json.reason_list.Given as goal

abbrev pub invariant-loop-note : goal.invariant-loop-note
invariant-loop-note l =
    map view l.values.items ≡ map (reason_data (about l.subject)) (take l.note-index l.notes)
