use Rattle.std.proofs.Common.{◌≡◌, ◌+◌, ◌-◌, ◌≤◌, ◌++◌, length, map, drop}
use Rattle.deb_text.specs.Lines.{plain_lines}
use Rattle.deb_stanza.specs.View.{AreWithin, line_in}
use Rattle.deb_stanza.proofs.plain.kept_places.Given as goal

abbrev pub invariant-loop-line : goal.invariant-loop-line
invariant-loop-line l = record {
  so_far : map (line_in l.text) l.places.items ++ plain_lines (l.number + 1) l.rest
      ≡ plain_lines 1 l.text;
  within : AreWithin l.text l.places.items;
  rest : l.rest ≡ drop (length l.text - length l.rest) l.text;
  in_range : l.number + length l.rest ≤ length l.text;
}

abbrev pub decreases-loop-line : goal.decreases-loop-line
decreases-loop-line l = length l.rest
