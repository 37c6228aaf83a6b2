use Rattle.std.proofs.Common.{◌≡◌, length}
use Rattle.deb_stanza.specs.OwnLines.{from_field}
use Rattle.deb_stanza.proofs.own_lines.from_field.Given as goal

abbrev pub invariant-loop-left : goal.invariant-loop-left
invariant-loop-left l = from_field l.name l.first l.lines ≡ from_field l.name l.first l.left

abbrev pub decreases-loop-left : goal.decreases-loop-left
decreases-loop-left l = length l.left
