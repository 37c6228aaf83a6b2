use Rattle.std.proofs.Common.{◌≡◌, drop}
use Rattle.known_rows.specs.Column.{of_list, least}
use Rattle.known_rows.proofs.column.least.Given as goal

abbrev pub invariant-loop-source : goal.invariant-loop-source
invariant-loop-source l = least l.lane (of_list l.x) l.best (drop l.source-index l.sources)
    ≡ least l.lane (of_list l.x) l.total l.sources
