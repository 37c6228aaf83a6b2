use Rattle.std.proofs.Common.{◌≤◌, length}
use Rattle.deb_stanza.specs.Draft.{names_from}
use Rattle.deb_stanza.specs.Names.{HasNames}
use Rattle.deb_stanza.proofs.table.Table.names_from.Given as goal

-- the names from the last one that was put on
abbrev pub invariant-loop-field : goal.invariant-loop-field
invariant-loop-field l = record {
  names : HasNames l.names (names_from l.self l.field);
  within : l.start ≤ l.field;
  there : l.field ≤ length l.self.fields.items;
}

abbrev pub decreases-loop-field : goal.decreases-loop-field
decreases-loop-field l = l.field
