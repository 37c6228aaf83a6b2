use Rattle.std.proofs.Common.{◌≡◌, true}
use Rattle.sat_rows.specs.Found.{among, some_atom, passes_there, GrowsBy}
use Rattle.sat_rows.proofs.Each.{Before}
use Rattle.sat_rows.proofs.found.Found.add_items.Given as goal

-- those that pass so far
abbrev pub invariant-loop-item : goal.invariant-loop-item
invariant-loop-item g l =
    let test = g.T.AtomTest.test l.test in
    GrowsBy l.universe (some_atom l.universe g.F.Field.field test) l.fn.self l.self
    × Before (λ at. passes_there l.universe g.F.Field.field test at ≡ true
    → among l.self at.owner.name at.owner.bit ≡ true) l.items l.item-index
