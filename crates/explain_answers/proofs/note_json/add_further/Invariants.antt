use Rattle.std.proofs.Common.{◌≡◌, map, take}
use Rattle.shown_text.specs.Texts.{text_data}
use Rattle.plan_reader.specs.Variants.{variant_text}
use Rattle.plan_model.specs.Plan.{lane}
use Rattle.serde_json.specs.View.{view}
use Rattle.explain_answers.proofs.note_json.add_further.Given as goal

abbrev pub invariant-loop-variant : goal.invariant-loop-variant
invariant-loop-variant l =
    map view l.texts.items
    ≡ map text_data (map (variant_text l.universe) (take l.variant-index l.variant-items))

abbrev pub invariant-loop-lane : goal.invariant-loop-lane
invariant-loop-lane l =
    map view l.texts.items
    ≡ map text_data (map (λ k. (lane l.plan.lanes k).name) (take l.lane-index l.lane-items))
