use Rattle.std.proofs.Common.{◌≡◌, ◌+◌, ◌++◌, drop}
use Rattle.cert_text.specs.Certificates.{places_from, row_places}
use Rattle.cert_text.proofs.places.row_places.Given as goal

abbrev pub invariant-loop-number : goal.invariant-loop-number
invariant-loop-number l =
    l.places.items ++ places_from (l.number + 1) (drop l.number l.lane.instructions)
    ≡ row_places l.lane
