use Rattle.std.proofs.Common.{◌≡◌, ◌++◌, ◌&&◌}
use Rattle.farm_model.specs.Packages.{variant}
use Rattle.may_rows.specs.Words.{may_of}
use Rattle.explain_reasons.specs.Listed.{all_below, one_if}
use Rattle.explain_lanes.specs.LaneNotes.{could_meet, is_no_help}
use Rattle.explain_lanes.proofs.further.push_name.Given as goal

abbrev pub invariant-loop-bit : goal.invariant-loop-bit
invariant-loop-bit l =
    let m = may_of l.state in
    l.found.items ≡ l.fn.found.items ++ all_below l.bit (λ b.
    one_if (could_meet l.universe l.entry l.name
    && is_no_help l.universe l.entry (m.slots l.name) (variant l.name b)) (variant l.name b))
