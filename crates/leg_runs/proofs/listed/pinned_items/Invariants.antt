use Rattle.std.proofs.Common.{◌≡◌, ◌++◌, drop}
use Rattle.std.specs.List.{flat_map}
use Rattle.leg_runs.specs.Listed.{entry_items}
use Rattle.leg_runs.proofs.listed.pinned_items.Given as goal

abbrev pub invariant-loop-entry : goal.invariant-loop-entry
invariant-loop-entry l =
    l.items.items ++ flat_map entry_items (drop l.entry-index l.entries)
    ≡ flat_map entry_items l.entries
