use Rattle.import_notes.proofs.NoteLaws.{notes-ahead}
use Rattle.import_notes.proofs.import_lines.ImportLinesTell.farm_lines.Goals as goal

pub returns : goal.returns
returns c =
    notes-ahead c.args.farm.unmet.now c.push_notes.new.text.items
    c.extend_from_slice.new.self.items c.deref.result.now c.in_ok-push_notes.ensures
    c.in_ok-extend_from_slice.ensures.items
