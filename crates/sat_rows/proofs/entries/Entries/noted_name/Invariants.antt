use Rattle.sat_rows.specs.Entries.{IsGrown}
use Rattle.sat_rows.specs.Links.{IsNumbered}
use Rattle.sat_rows.proofs.entries.Entries.noted_name.Given as goal

-- the variants so far
abbrev pub invariant-loop-bit : goal.invariant-loop-bit
invariant-loop-bit g l =
    IsGrown l.fn.self l.self
    × IsNumbered l.universe g.F.Field.field l.self l.name l.bit l.found
