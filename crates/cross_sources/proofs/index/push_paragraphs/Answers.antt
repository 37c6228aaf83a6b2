use Rattle.std.proofs.Common.{List, subst, arith}
use Rattle.std.proofs.lemmas.List.{take_all}
use Rattle.deb_stanza.specs.Stanza.{Paragraph}
use Rattle.cross_sources.specs.EncodedSource.{IsMadeOf}
use Rattle.cross_sources.specs.Relations.{way_of}
use Rattle.cross_index.specs.Pieces.{AreMade, GetsBehind}
use Rattle.cross_index.proofs.PieceLaws.{gets-next_at, gets-none}
use Rattle.cross_sources.proofs.index.push_paragraphs.Goals as goal

pub loop-at-init : goal.loop-at-init
loop-at-init c =
    gets-none (IsMadeOf (way_of c.args.of)) c.args.made.now.text.items

pub loop-at-preserved : goal.loop-at-preserved
loop-at-preserved c =
    gets-next_at (IsMadeOf (way_of c.args.of)) c.args.paragraphs.now c.loop-at.at
    c.new-paragraph.result c.args.made.now.text.items c.loop-at.made.text.items
    c.push_paragraph.new.made.text.items (omega arith) c.new-paragraph.ensures c.loop-at.invariant
    c.in_ok-push_paragraph.ensures

pub returns : goal.returns
returns c =
    let Is = IsMadeOf (way_of c.args.of) in
    subst (λ (olds : List Paragraph). GetsBehind (AreMade Is olds) c.args.made.now.text.items
    c.loop-at.made.text.items) (take_all c.loop-at.at c.args.paragraphs.now (omega arith))
    c.loop-at.invariant
