use Rattle.std.proofs.Common.{◌≡◌, take, All, flat_map}
use Rattle.farm_model.specs.Sound.{IsKnown}
use Rattle.may_rows.specs.Words.{may_of}
use Rattle.explain_reasons.specs.Listed.{held_in}
use Rattle.explain_reasons.specs.declared.held.Phase.{Phase}
use Rattle.explain_reasons.proofs.place.Place.held_members.Given as goal

abbrev pub invariant-loop-place : goal.invariant-loop-place
invariant-loop-place l =
    let m = may_of l.self.state.now in
    record {
      held : l.held.items ≡ flat_map
          (λ n. held_in l.self.universe.now Phase.Present n (m.slots n)) (take l.place l.members);
      known : All (IsKnown l.self.universe.now) l.held.items;
    }
