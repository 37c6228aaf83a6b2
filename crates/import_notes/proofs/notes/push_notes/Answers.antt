use Rattle.import_notes.proofs.NoteLaws.{has-notes}
use Rattle.import_notes.proofs.notes.push_notes.Goals as goal

pub returns : goal.returns
returns c =
    has-notes c.args.farm.unmet.now c.push_stand_ins.new.text.items c.push_all_unmet.new.text.items
    c.extend_from_slice.new.self.items c.deref-3.result.now c.in_ok-push_all_unmet.ensures
    c.in_ok-extend_from_slice.ensures.items
