use Rattle.std.proofs.Common.{[], ◌∷◌, ◌++◌, ◌-◌, sym, ap, ◌∙◌, Some, None, append-nil}
use Rattle.std.proofs.lemmas.List.{map-append}
use Rattle.explain_lanes.proofs.NoteLaws.{notes_are}
use Rattle.explain_lanes.specs.LaneNotes.{told_further}
use Rattle.explain_lanes.specs.Notes.{all_facts, facts, note_of}
use Rattle.explain_lanes.proofs.lanes.push_lane.Goals as goal

pub returns-in_default-clause-notes : goal.returns-in_default-clause-notes
returns-in_default-clause-notes g c =
    let s = c.args.stage.now in
    let rows = (g.K.KnownWords.known s.known.now).rows in
    let before = all_facts c.args.notes.now.items in
    sym (append-nil before)
    ∙ ap (λ notes. before ++ notes)
    (notes_are s.universe.now s.plan.now.lanes rows s.plan.now.lines.lanes c.args.lane None
    (sym c.in_default.is ∙ c.in_ok-hazard.ensures.hazard))

pub returns-clause-notes : goal.returns-clause-notes
returns-clause-notes g c =
    let s = c.args.stage.now in
    let rows = (g.K.KnownWords.known s.known.now).rows in
    let ls = s.plan.now.lines.lanes in
    let l = c.args.lane in
    let it = c.in-Some.hazard in
    let before = all_facts c.args.notes.now.items in
    let further = told_further s.universe.now s.plan.now.lanes rows l it.place in
    ap all_facts c.in_ok-push.ensures.items
    ∙ map-append facts c.args.notes.now.items _
    ∙ ap (λ n. before ++ n ∷ [])
    (rw (c.requires.same, c.saturating_sub-place.ensures, c.in_ok-told.ensures.further)
    at c.in_ok-note.ensures)
    ∙ ap (λ notes. before ++ notes)
    (ap (note_of s.plan.now.lanes ls l (it.instruction - 1) it.trap further) c.in_ok-told.ensures.told
    ∙ notes_are s.universe.now s.plan.now.lanes rows ls l (Some it)
    (sym c.in-Some.is ∙ c.in_ok-hazard.ensures.hazard))
