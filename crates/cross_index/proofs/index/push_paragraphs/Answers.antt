use Rattle.std.proofs.Common.{List, subst, arith}
use Rattle.std.proofs.lemmas.List.{take_all}
use Rattle.deb_stanza.specs.Stanza.{Paragraph}
use Rattle.cross_index.specs.EncodedIndex.{IsEncodedBy}
use Rattle.cross_index.specs.Pieces.{AreMade, GetsBehind}
use Rattle.cross_index.proofs.PieceLaws.{gets-next_at, gets-none}
use Rattle.cross_index.proofs.index.push_paragraphs.Goals as goal

pub loop-at-init : goal.loop-at-init
loop-at-init c =
    gets-none (IsEncodedBy c.args.sides.now c.args.is_archive) c.args.text.now.items

pub loop-at-preserved : goal.loop-at-preserved
loop-at-preserved c =
    gets-next_at (IsEncodedBy c.args.sides.now c.args.is_archive) c.args.paragraphs.now c.loop-at.at
    c.new-paragraph.result c.args.text.now.items c.loop-at.text.items
    c.push_paragraph.new.text.items (omega arith) c.new-paragraph.ensures c.loop-at.invariant
    c.in_ok-more.ensures

pub returns : goal.returns
returns c =
    let Is = IsEncodedBy c.args.sides.now c.args.is_archive in
    subst (λ (olds : List Paragraph). GetsBehind (AreMade Is olds) c.args.text.now.items
    c.loop-at.text.items) (take_all c.loop-at.at c.args.paragraphs.now (omega arith))
    c.loop-at.invariant
