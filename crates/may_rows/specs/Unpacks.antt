-- The tests of an unpack under a map that holds nothing of the name. The project's own rules:
-- `unpack_risks` never looks at the slot of the name itself, but for the space that it may take.
use Rattle.std.specs.Prelude.{ℕ, Bool, List}
use Rattle.farm_model.specs.Universe.{Universe}
use Rattle.farm_model.specs.declared.types.Trap.{Trap}
use Rattle.plan_model.specs.Common.{Lane, Bits, May, unpack_risks_by}
use Rattle.may_rows.specs.Words.{surely_met_ahead}

-- the tests, where so much space may be taken before the name's slot was emptied
abbrev pub cleared_risks : Universe → Lane → May → (used name : ℕ) → Bits → List (Bool × Trap)
cleared_risks u of m used name set =
    unpack_risks_by u of m name set (surely_met_ahead u m) used
