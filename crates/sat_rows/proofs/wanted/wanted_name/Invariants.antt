use Rattle.std.proofs.Common.{List}
use Rattle.deb_relation.specs.Relations.{Entry}
use Rattle.sat_rows.specs.ByVariant.{AreValuesOfName}
use Rattle.sat_rows.specs.Entries.{AreNumbers, no_numbers}
use Rattle.sat_rows.specs.Links.{IsNumbered}
use Rattle.sat_rows.specs.Served.{wanted}
use Rattle.sat_rows.proofs.wanted.wanted_name.Given as goal

-- the variants so far
abbrev pub invariant-loop-bit : goal.invariant-loop-bit
invariant-loop-bit l =
    (entries : List Entry)
    → AreValuesOfName l.universe (AreNumbers l.universe entries) no_numbers l.name l.numbers
    → IsNumbered l.universe wanted entries l.name l.bit l.found
