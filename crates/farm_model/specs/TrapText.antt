-- The traps as answers name them. The project's own format.
use Rattle.std.specs.Prelude.{ℕ, List, codes}
use Rattle.farm_model.specs.declared.types.Trap.{Trap}
use Rattle.farm_model.specs.declared.types.Trap.TheVariants.{Missing, PreDepends, Conflict, BreaksOther, Full, WrongState, Depends, Broken, StillNeeded, Unsettled, BuildDepends, BuildConflict, NotBuilt, OverBudget, Essential}

abbrev pub trap_text : Trap → List ℕ
trap_text Missing = codes "X1 Missing"
trap_text PreDepends = codes "X2 PreDepends"
trap_text Conflict = codes "X3 Conflict"
trap_text BreaksOther = codes "X4 BreaksOther"
trap_text Full = codes "X5 Full"
trap_text WrongState = codes "X6 WrongState"
trap_text Depends = codes "X7 Depends"
trap_text Broken = codes "X8 Broken"
trap_text StillNeeded = codes "X9 StillNeeded"
trap_text Unsettled = codes "X10 Unsettled"
trap_text BuildDepends = codes "X11 BuildDepends"
trap_text BuildConflict = codes "X12 BuildConflict"
trap_text NotBuilt = codes "X13 NotBuilt"
trap_text OverBudget = codes "X14 OverBudget"
trap_text Essential = codes "X15 Essential"
