use Rattle.std.proofs.Common.{rules, ◌≡◌, ◌<◌, ◌∙◌, ap, length, get_or, slice_set}
use Rattle.std.specs.Global.{Vec}
use Rattle.deb_text.proofs.ListLaws.{lists-set}
use Rattle.drive_replay.specs.declared.notes.Note.{Note}
use Rattle.drive_replay.proofs.notes.set_in.Goals as goal

pub returns-in-Some : goal.returns-in-Some
returns-in-Some c =
    let vs = c.args.places.now.items in
    let lt : c.args.lane < length vs = search rules in
    let is : c.in-Some.places.now ≡ get_or vs c.args.lane c.in-Some.places.now = search rules in
    lists-set vs c.args.lane c.set_note.new.places (λ xs. slice_set xs c.args.number c.args.note)
    c.in-Some.places.now lt
    (c.set_note.ensures
    ∙ ap (λ (v : Vec Note). slice_set v.items c.args.number c.args.note) is)
