use Rattle.std.proofs.Common.{◌≡◌}
use Rattle.std.specs.List.{slice_range}
use Rattle.deb_stanza.specs.View.{table_texts, value_among}
use Rattle.deb_stanza.proofs.table.Table.value_among.Given as goal

abbrev pub invariant-loop-field : goal.invariant-loop-field
invariant-loop-field l =
    value_among l.name (slice_range (table_texts l.self) l.field l.to)
    ≡ value_among l.name (slice_range (table_texts l.self) l.from l.to)
