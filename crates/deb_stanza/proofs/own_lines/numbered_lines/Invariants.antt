use Rattle.std.proofs.Common.{◌≡◌, ◌+◌, ◌≤◌, ◌++◌, length}
use Rattle.deb_text.specs.Lines.{control_lines}
use Rattle.deb_stanza.proofs.own_lines.numbered_lines.Given as goal

abbrev pub invariant-loop-bytes : goal.invariant-loop-bytes
invariant-loop-bytes l = record {
  same : control_lines 1 l.text ≡ l.lines.items ++ control_lines (l.number + 1) l.rest;
  in_range : l.number + length l.rest ≤ length l.text;
}

abbrev pub decreases-loop-bytes : goal.decreases-loop-bytes
decreases-loop-bytes l = length l.rest
