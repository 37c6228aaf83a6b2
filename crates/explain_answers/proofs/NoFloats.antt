-- Verdicts with their notes are objects without floats.
use Rattle.std.proofs.Common.{◌≡◌, ℕ, List, [], ◌∷◌, false, refl, codes, map, arith}
use Rattle.std.proofs.lemmas.Bool.{or_from}
use Rattle.std.proofs.lemmas.Grind.{common_steps}
use Rattle.shown_text.proofs.NoFloats.{no_float_in_lines}
use Rattle.shown_text.specs.Texts.{lines_data, text_data}
use Rattle.farm_answers.proofs.NoFloats.{no_float_in_verdict}
use Rattle.farm_answers.specs.Verdicts.{verdict_members}
use Rattle.explain_lanes.specs.declared.note.Note.{Note}
use Rattle.serde_json.specs.Data.{Data, Members, array, member, no_members, put}
use Rattle.serde_json.specs.View.{items_of}
use Rattle.serde_json.specs.Written.{has_float, members_have_float}
use Rattle.explain_answers.specs.Explanations.{explained_members, subject_of}
use Rattle.explain_answers.specs.Facts.{About, Fact, note_facts, reasons_data, with_fact, with_facts}
use Rattle.explain_answers.specs.declared.explanation.Explanation.{Explanation}
use Rattle.explain_answers.specs.declared.explanation.Notes.{Notes}

-- one more has none where neither it nor they have one
no_float_put : (k : List ℕ) (d : Data) (ms : Members) → has_float d ≡ false
    → members_have_float ms ≡ false → members_have_float (put k d ms) ≡ false
no_float_put k d no_members none before = grind arith
no_float_put k d (member l e ms) none before =
    grind (arith, common_steps, no_float_put k d ms none)

in_texts : (texts : List (List ℕ)) → has_float (array (items_of (map text_data texts))) ≡ false
in_texts [] = refl
in_texts (text ∷ texts) = in_texts texts

in_facts : (facts : List Fact) (ms : Members) → members_have_float ms ≡ false
    → members_have_float (with_facts ms facts) ≡ false
in_facts [] ms none = none
in_facts (fact ∷ facts) ms none =
    in_facts facts (with_fact ms fact) (grind (arith, no_float_put, in_texts))

in_notes : (of : About) (notes : List Note) → has_float (reasons_data of notes) ≡ false
in_notes of [] = refl
in_notes of (note ∷ notes) =
    or_from _ _ (in_facts (note_facts of note) no_members refl) (in_notes of notes)

pub no_float_in_explained : (e : Explanation) (notes : Notes)
    → members_have_float (explained_members e notes) ≡ false
no_float_in_explained e notes =
    let of = subject_of e.verdict e.refused notes.about in
    let before = verdict_members e.verdict in
    no_float_put (codes "reasons") (reasons_data of notes.reasons.items)
    (put (codes "warnings") (lines_data notes.warnings.items) before)
    (in_notes of notes.reasons.items)
    (no_float_put (codes "warnings") (lines_data notes.warnings.items) before
    (no_float_in_lines notes.warnings.items) (no_float_in_verdict e.verdict))
