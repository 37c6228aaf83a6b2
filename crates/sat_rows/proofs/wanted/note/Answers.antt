use Rattle.std.proofs.Common.{sym, subst}
use Rattle.std.specs.List.{AllZip}
use Rattle.farm_model.specs.Packages.{depends, pre_depends}
use Rattle.sat_rows.specs.Entries.{IsNumberOf}
use Rattle.sat_rows.proofs.WantedLaws.{adds_both}
use Rattle.sat_rows.proofs.wanted.note.Goals as goal

pub returns : goal.returns
returns c u entries v are =
    adds_both entries (depends u v) (pre_depends u v) c.args.bit c.args.found.now
    c.note_entries.new.found
    c.note_entries-2.new.found
    (c.in_ok-note_entries.ensures entries (depends u v)
    (subst (AllZip (IsNumberOf entries) (depends u v)) (sym c.all_depends.ensures) are.depends))
    (c.in_ok-note_entries-2.ensures entries (pre_depends u v)
    (subst (AllZip (IsNumberOf entries) (pre_depends u v)) (sym c.all_pre_depends.ensures)
    are.pre_depends))
