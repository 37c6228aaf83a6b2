use Rattle.std.proofs.Common.{◌≡◌, ◌++◌, length, map}
use Rattle.deb_stanza.specs.Stanza.{continuation}
use Rattle.deb_stanza.specs.OwnLines.{bytes_of, field_in, item_line}
use Rattle.deb_stanza.proofs.OwnLineLaws.{line_behind}
use Rattle.deb_stanza.proofs.own_lines.item_line.Given as goal

abbrev pub invariant-loop-left : goal.invariant-loop-left
invariant-loop-left l =
    item_line l.fn.lines l.fn.first l.fn.name l.fn.place
    ≡ line_behind l.is_inside l.places (bytes_of (field_in l.left))

abbrev pub decreases-loop-left : goal.decreases-loop-left
decreases-loop-left l = length l.left

abbrev pub invariant-loop-bytes : goal.invariant-loop-bytes
invariant-loop-bytes l =
    item_line l.fn.lines l.fn.first l.fn.name l.fn.place
    ≡ line_behind l.is_inside l.places
    (map (λ b. (l.number, b)) l.bytes ++ bytes_of (continuation l.rest))

abbrev pub decreases-loop-bytes : goal.decreases-loop-bytes
decreases-loop-bytes l = length l.bytes
