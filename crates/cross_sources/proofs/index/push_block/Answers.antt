use Rattle.std.proofs.Common.{ℕ, ◌-◌, List, ap, ◌∙◌}
use Rattle.deb_text.specs.Common.{control_lines}
use Rattle.deb_stanza.specs.Stanza.{paragraphs_of}
use Rattle.debian_index.specs.Index.{paragraphs_in}
use Rattle.cross_sources.specs.EncodedSource.{IsMadeOf}
use Rattle.cross_sources.specs.Relations.{way_of}
use Rattle.cross_sources.proofs.SourceLaws.{made-moves}
use Rattle.cross_index.proofs.PieceLaws.{gets-later}
use Rattle.cross_sources.proofs.index.push_block.Goals as goal

pub returns-in-Ok-push_paragraphs : goal.returns-in-Ok-push_paragraphs
returns-in-Ok-push_paragraphs c =
    let number = c.args.block.now.number in
    gets-later (IsMadeOf (way_of c.args.of)) (made-moves (way_of c.args.of))
    c.in-Ok.paragraphs (paragraphs_in c.args.index.now c.args.block.now) (number - 1)
    c.args.made.now.text.items c.push_paragraphs.new.made.text.items
    (c.in-Ok.ensures.lines
    ∙ ap (λ (bytes : List ℕ). paragraphs_of (control_lines number bytes)) c.bytes-bytes.ensures)
    c.in-Ok-push_paragraphs.ensures
