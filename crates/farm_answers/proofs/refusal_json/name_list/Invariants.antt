use Rattle.std.proofs.Common.{◌≡◌, map, take}
use Rattle.deb_text.specs.Lists.{lists}
use Rattle.serde_json.specs.View.{view}
use Rattle.farm_answers.specs.Refusals.{name_data}
use Rattle.farm_answers.proofs.refusal_json.name_list.Given as goal

abbrev pub invariant-loop-name : goal.invariant-loop-name
invariant-loop-name l =
    map view l.values.items ≡ map name_data (lists (take l.name-index l.names))
