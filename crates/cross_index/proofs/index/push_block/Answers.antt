use Rattle.std.proofs.Common.{ℕ, ◌-◌, List, ap, ◌∙◌}
use Rattle.deb_text.specs.Common.{control_lines}
use Rattle.deb_stanza.specs.Stanza.{paragraphs_of}
use Rattle.debian_index.specs.Index.{paragraphs_in}
use Rattle.cross_index.specs.EncodedIndex.{IsEncodedBy}
use Rattle.cross_index.proofs.IndexLaws.{encoded-moves}
use Rattle.cross_index.proofs.PieceLaws.{gets-later}
use Rattle.cross_index.proofs.index.push_block.Goals as goal

pub returns-in-Ok-push_paragraphs : goal.returns-in-Ok-push_paragraphs
returns-in-Ok-push_paragraphs c =
    let s = c.args.sides.now in
    let number = c.args.block.now.number in
    gets-later (IsEncodedBy s c.args.is_archive) (encoded-moves s c.args.is_archive)
    c.in-Ok.paragraphs (paragraphs_in c.args.index.now c.args.block.now) (number - 1)
    c.args.text.now.items c.push_paragraphs.new.text.items
    (c.in-Ok.ensures.lines
    ∙ ap (λ (bytes : List ℕ). paragraphs_of (control_lines number bytes)) c.bytes-bytes.ensures)
    c.in-Ok-push_paragraphs.ensures
