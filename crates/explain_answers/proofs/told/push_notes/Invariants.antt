use Rattle.std.proofs.Common.{◌≡◌, ◌++◌, take, flat_map}
use Rattle.explain_answers.specs.Facts.{head_and_text}
use Rattle.explain_answers.proofs.told.push_notes.Given as goal

abbrev pub invariant-loop-note : goal.invariant-loop-note
invariant-loop-note l =
    l.text.items ≡ l.initial.text.items ++ flat_map head_and_text (take l.note-index l.more)
