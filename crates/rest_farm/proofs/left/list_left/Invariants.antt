use Rattle.std.proofs.Common.{◌≡◌}
use Rattle.farm_model.specs.Common.{some_below}
use Rattle.leg_laws.specs.Named.{Item, is_listed}
use Rattle.plan_model.specs.Common.{archive}
use Rattle.rest_farm.proofs.HeldLaws.{some_named}
use Rattle.rest_farm.proofs.left.list_left.Given as goal

abbrev pub invariant-loop-name : goal.invariant-loop-name
invariant-loop-name l =
    (item : Item) → is_listed l.list.items item
    ≡ some_below l.name (some_named l.universe (archive l.universe l.run.state.published) item)
