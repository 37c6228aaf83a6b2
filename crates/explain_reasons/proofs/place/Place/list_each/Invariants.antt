use Rattle.std.proofs.Common.{◌≡◌, take, flat_map}
use Rattle.explain_reasons.specs.Reasons.{answers}
use Rattle.explain_reasons.proofs.place.Place.list_each.Given as goal

abbrev pub invariant-loop-place : goal.invariant-loop-place
invariant-loop-place l =
    l.found.items ≡ flat_map (answers l.self.universe.now l.asked) (take l.place l.variants)
