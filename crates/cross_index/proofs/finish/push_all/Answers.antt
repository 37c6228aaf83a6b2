use Rattle.std.proofs.Common.{List, subst, arith}
use Rattle.std.proofs.lemmas.List.{take_all}
use Rattle.deb_stanza.specs.Stanza.{Paragraph}
use Rattle.cross_index.specs.Finished.{IsFinishedBy}
use Rattle.cross_index.specs.Pieces.{AreMade, GetsBehind}
use Rattle.cross_index.proofs.PieceLaws.{gets-next_at, gets-none}
use Rattle.cross_index.proofs.finish.push_all.Goals as goal

pub loop-at-init : goal.loop-at-init
loop-at-init c =
    gets-none (IsFinishedBy c.args.sides.now c.args.all.now) c.args.text.now.items

pub loop-at-preserved : goal.loop-at-preserved
loop-at-preserved c =
    gets-next_at (IsFinishedBy c.args.sides.now c.args.all.now) c.args.olds.now c.loop-at.at
    c.new-old.result c.args.text.now.items c.loop-at.text.items c.push_piece.new.text.items
    (omega arith) c.new-old.ensures c.loop-at.invariant c.in_ok-push_piece.ensures

pub returns : goal.returns
returns c =
    let Is = IsFinishedBy c.args.sides.now c.args.all.now in
    subst (λ (olds : List Paragraph). GetsBehind (AreMade Is olds) c.args.text.now.items
    c.loop-at.text.items) (take_all c.loop-at.at c.args.olds.now (omega arith))
    c.loop-at.invariant
