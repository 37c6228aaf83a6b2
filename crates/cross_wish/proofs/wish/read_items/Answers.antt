use Rattle.std.proofs.Common.{◌≡◌, Ok, arith, subst}
use Rattle.deb_text.proofs.StepLaws.{place-goes, place-ends}
use Rattle.deb_stanza.specs.Stanza.{Paragraph}
use Rattle.cross_wish.specs.Views.{cross_head_view, cross_items_view}
use Rattle.cross_wish.specs.Wish.{step_at}
use Rattle.cross_wish.proofs.wish.read_items.Goals as goal

pub loop-number-preserved : goal.loop-number-preserved
loop-number-preserved c =
    let step = step_at (cross_head_view c.args.head.now) in
    let goes =
    subst (λ (q : Paragraph). step (cross_items_view c.loop-number.items) q
    ≡ Ok (cross_items_view c.add.new.items)) c.new-paragraph.ensures c.in_ok-add.ensures in
    place-goes step c.args.paragraphs.now c.loop-number.number _ _ _ _ (omega arith) goes
    c.loop-number.invariant

pub returns : goal.returns
returns c =
    place-ends (step_at (cross_head_view c.args.head.now)) c.args.paragraphs.now
    c.loop-number.number _ _ (omega arith) c.loop-number.invariant
