use Rattle.std.proofs.Common.{take}
use Rattle.std.specs.List.{list_any}
use Rattle.farm_model.specs.Packages.{satisfies}
use Rattle.sat_rows.specs.Found.{Finds}
use Rattle.sat_rows.proofs.found.Found.add_entry.Given as goal

abbrev pub invariant-loop-atom : goal.invariant-loop-atom
invariant-loop-atom l =
    Finds l.universe
    (λ v. list_any (λ a. satisfies l.universe a v) (take l.atom-index l.entry))
    l.fn.self l.self
