use Rattle.std.proofs.Common.{◌≡◌, All}
use Rattle.farm_model.specs.Sound.{IsKnown}
use Rattle.may_rows.specs.Words.{may_of}
use Rattle.explain_reasons.specs.Listed.{all_below, held_in}
use Rattle.explain_reasons.proofs.place.Place.held_names.Given as goal

abbrev pub invariant-loop-name : goal.invariant-loop-name
invariant-loop-name l = record {
  held : l.held.items ≡ all_below l.name
      (λ n. held_in l.self.universe.now l.phase n ((may_of l.state).slots n));
  known : All (IsKnown l.self.universe.now) l.held.items;
}
