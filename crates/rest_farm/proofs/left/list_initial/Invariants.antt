use Rattle.std.proofs.Common.{◌≡◌}
use Rattle.farm_model.specs.Common.{initial, some_below}
use Rattle.leg_laws.specs.Named.{Item, is_listed}
use Rattle.rest_farm.proofs.HeldLaws.{some_named}
use Rattle.rest_farm.proofs.left.list_initial.Given as goal

abbrev pub invariant-loop-name : goal.invariant-loop-name
invariant-loop-name l =
    (item : Item) → is_listed l.list.items item
    ≡ some_below l.name (some_named l.farm (initial l.farm) item)
