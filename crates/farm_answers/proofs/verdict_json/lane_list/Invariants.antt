use Rattle.std.proofs.Common.{◌≡◌, map}
use Rattle.serde_json.specs.View.{view}
use Rattle.farm_answers.specs.Verdicts.{data_below, lane_data}
use Rattle.farm_answers.proofs.verdict_json.lane_list.Given as goal

abbrev pub invariant-loop-number : goal.invariant-loop-number
invariant-loop-number l = map view l.values.items ≡ data_below l.number (lane_data l.accepted)
