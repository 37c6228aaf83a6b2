use Rattle.std.proofs.Common.{◌≡◌}
use Rattle.may_rows.specs.Words.{may_of}
use Rattle.explain_reasons.specs.Listed.{all_below}
use Rattle.explain_reasons.specs.Reasons.{unsettled}
use Rattle.explain_reasons.proofs.place.Place.list_build.Given as goal

abbrev pub invariant-loop-name : goal.invariant-loop-name
invariant-loop-name l =
    l.found.items
    ≡ all_below l.name (unsettled l.self.universe.now (may_of l.self.state.now))
