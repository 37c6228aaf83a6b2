use Rattle.std.proofs.Common.{◌≡◌, Ok, arith, subst}
use Rattle.deb_text.specs.Answers.{Fails, refusal_of}
use Rattle.deb_text.proofs.StepLaws.{place-goes, place-stops, place-ends}
use Rattle.deb_stanza.specs.Stanza.{Paragraph}
use Rattle.import_wish.specs.Head.{head_view}
use Rattle.import_wish.specs.Wish.{items_view, step_at}
use Rattle.import_wish.proofs.wish.read_items.Goals as goal

pub returns-in-Err : goal.returns-in-Err
returns-in-Err c =
    let step = step_at (head_view c.args.head.now) in
    let stops =
    subst (λ (q : Paragraph). Fails refusal_of c.in-Err.fault
    (step (items_view c.loop-number.items) q)) c.new-paragraph.ensures c.in-Err.ensures in
    place-stops step refusal_of c.in-Err.fault c.args.paragraphs.now c.loop-number.number _ _ _
    (omega arith) stops c.loop-number.invariant

pub loop-number-preserved : goal.loop-number-preserved
loop-number-preserved c =
    let step = step_at (head_view c.args.head.now) in
    let goes =
    subst (λ (q : Paragraph). step (items_view c.loop-number.items) q
    ≡ Ok (items_view c.take.new.items)) c.new-paragraph.ensures c.in_default.ensures in
    place-goes step c.args.paragraphs.now c.loop-number.number _ _ _ _ (omega arith) goes
    c.loop-number.invariant

pub returns : goal.returns
returns c =
    place-ends (step_at (head_view c.args.head.now)) c.args.paragraphs.now c.loop-number.number _ _
    (omega arith) c.loop-number.invariant
