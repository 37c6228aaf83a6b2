use Rattle.std.proofs.Common.{◌≡◌, ◌+◌, ◌≤◌, drop, length}
use Rattle.deb_text.specs.Steps.{with_front}
use Rattle.cert_text.specs.CertText.{rows_in}
use Rattle.cert_text.specs.Items.{EachIsSaid}
use Rattle.cert_text.proofs.reader.read_rows.Given as goal

abbrev pub invariant-loop-i : goal.invariant-loop-i
invariant-loop-i l = record {
  so_far : with_front l.rows.items
      (rows_in l.source.spelled.universe.now l.source.end l.name (drop l.i l.numbers)
      (drop (l.start + l.i) l.source.lines.now))
      ≡ rows_in l.source.spelled.universe.now l.source.end l.name l.numbers
      (drop l.start l.source.lines.now);
  count : length l.rows.items ≡ l.i;
  kept : EachIsSaid l.source.spelled.universe.now l.repeats;
  there : l.start + l.i ≤ length l.source.lines.now;
}
