use Rattle.std.proofs.Common.{◌≡◌, ◌+◌, ◌≤◌, drop, length}
use Rattle.std.specs.List.{sum_by}
use Rattle.deb_text.specs.Common.{lists, with_front}
use Rattle.cert_text.specs.Certificates.{count_rows}
use Rattle.cert_text.specs.CertText.{lanes_in}
use Rattle.cert_text.proofs.reader.read_lanes.Given as goal

abbrev pub invariant-loop-number : goal.invariant-loop-number
invariant-loop-number l = record {
  so_far : with_front (lists l.rows.items)
      (lanes_in l.source.spelled.universe.now l.source.end (drop l.number l.plan.lanes)
      (drop l.at l.source.lines.now))
      ≡ lanes_in l.source.spelled.universe.now l.source.end l.plan.lanes
      (drop 1 l.source.lines.now);
  behind : l.at + sum_by count_rows (drop l.number l.plan.lanes)
      ≡ 1 + sum_by count_rows l.plan.lanes;
  there : l.at ≤ length l.source.lines.now;
}
