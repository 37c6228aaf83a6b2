use Rattle.std.proofs.Common.{ℕ, List, ap, ◌∙◌}
use Rattle.import_farm.specs.Notes.{note_on}
use Rattle.import_notes.proofs.notes.push_unmet.Goals as goal

pub returns : goal.returns
returns c =
    let asker = c.deref.result.now in
    let giver = c.deref-3.result.now in (
      note_on asker c.deref-2.result.now giver,
      c.in_ok-push_pieces.ensures,
      (
        asker,
        giver,
        ap (λ (words : List ℕ). note_on asker words giver)
            (c.deref-2.ensures.value ∙ c.in_ok-words.ensures),
      ),
    )
