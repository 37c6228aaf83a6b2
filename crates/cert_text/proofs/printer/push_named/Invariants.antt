use Rattle.std.proofs.Common.{◌≡◌, ◌++◌, map}
use Rattle.std.specs.List.{range_with_len}
use Rattle.cert_text.specs.Rows.{those_in_row}
use Rattle.cert_text.proofs.printer.push_named.Given as goal
use Rattle.farm_model.specs.Packages.{variant}

abbrev pub invariant-loop-bit : goal.invariant-loop-bit
invariant-loop-bit l =
    l.found.items
    ≡ l.fn.found.items ++ those_in_row l.row (map (variant l.name) (range_with_len 0 l.bit))
