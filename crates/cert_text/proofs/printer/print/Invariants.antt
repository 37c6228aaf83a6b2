use Rattle.std.proofs.Common.{◌≡◌, ◌++◌, drop}
use Rattle.std.specs.List.{flat_map, zip}
use Rattle.std.specs.Prelude.{codes}
use Rattle.cert_text.specs.Printed.{known_lines}
use Rattle.cert_text.proofs.printer.print.Given as goal

abbrev pub invariant-loop-number : goal.invariant-loop-number
invariant-loop-number l =
    l.text.items
    ++ flat_map (known_lines l.universe)
    (zip (drop l.number l.plan.lanes) (drop l.number l.certificate.rows))
    ≡ codes "cert 1\n" ++ flat_map (known_lines l.universe) (zip l.plan.lanes l.certificate.rows)
