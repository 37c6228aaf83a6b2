use Rattle.std.proofs.Common.{◌≡◌, ◌++◌, drop}
use Rattle.std.specs.List.{flat_map, zip}
use Rattle.cert_text.specs.Certificates.{row_places}
use Rattle.cert_text.specs.Printed.{known_line, known_lines}
use Rattle.cert_text.proofs.printer.push_lane.Given as goal

abbrev pub invariant-loop-i : goal.invariant-loop-i
invariant-loop-i l =
    l.text.items
    ++ flat_map (known_line l.universe l.lane.name)
    (zip (drop l.i (row_places l.lane)) (drop l.i l.rows))
    ≡ l.fn.text.items ++ known_lines l.universe (l.lane, l.rows)
