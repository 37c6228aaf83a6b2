use Rattle.std.proofs.Common.{◌≡◌, ◌+◌, ◌≤◌, length}
use Rattle.deb_text.specs.Lines.{lines_of}
use Rattle.cert_text.proofs.reader.end_of.Given as goal

abbrev pub invariant-loop-behind : goal.invariant-loop-behind
invariant-loop-behind l = record {
  so_far : l.end + length (lines_of l.rest) ≡ length (lines_of l.text) + 1;
  in_range : l.end + length l.rest ≤ length l.text + 1;
}

abbrev pub decreases-loop-behind : goal.decreases-loop-behind
decreases-loop-behind l = length l.rest
