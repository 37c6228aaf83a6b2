use Rattle.std.proofs.Common.{ap, ◌∙◌}
use Rattle.deb_stanza.proofs.OwnLineLaws.{bytes_first, line_behind}
use Rattle.deb_stanza.proofs.own_lines.item_line.Goals as goal

pub loop-bytes-init : goal.loop-bytes-init
loop-bytes-init c =
    c.loop-left.invariant ∙ ap (line_behind c.loop-left.is_inside c.loop-left.places)
    (bytes_first c.loop-left.left.now c.line-item.result c.line.inside.number
    c.value-bytes.result.now c.in-len1-up.len_at_least c.line-item.is
    (ap (λ l. l.0) c.line.view_is) c.value-bytes.ensures)
