use Rattle.std.proofs.Common.{take}
use Rattle.std.specs.List.{list_any}
use Rattle.farm_model.specs.Packages.{satisfies_entry}
use Rattle.sat_rows.specs.Found.{Finds}
use Rattle.sat_rows.proofs.found.Found.add_field.Given as goal

abbrev pub invariant-loop-entry : goal.invariant-loop-entry
invariant-loop-entry l =
    Finds l.universe
    (λ v. list_any (λ e. satisfies_entry l.universe e v) (take l.entry-index l.entry-items))
    l.fn.self l.self
