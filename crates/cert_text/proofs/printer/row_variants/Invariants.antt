use Rattle.std.proofs.Common.{◌≡◌}
use Rattle.std.specs.List.{flat_map, range_with_len}
use Rattle.cert_text.specs.Rows.{named_in_row}
use Rattle.cert_text.proofs.printer.row_variants.Given as goal

abbrev pub invariant-loop-name : goal.invariant-loop-name
invariant-loop-name l =
    l.found.items ≡ flat_map (named_in_row l.universe l.row) (range_with_len 0 l.name)
