use Rattle.std.proofs.Common.{◌+◌, ◌<◌, [], ◌∷◌, length, drop, sym, ap, ◌∙◌, arith}
use Rattle.std.proofs.lemmas.List.{drop_all, drop_more}
use Rattle.deb_text.proofs.StepLaws.{traverse-ends, traverse-goes}
use Rattle.deb_stanza.specs.Stanza.{Paragraph}
use Rattle.cross_index.specs.Finished.{given_at}
use Rattle.cross_index.proofs.given.read_all.Goals as goal

no_paragraph : Paragraph
no_paragraph = record { line = 0; fields = [] }

pub loop-at-preserved : goal.loop-at-preserved
unfolding no_paragraph
loop-at-preserved c =
    let f = given_at c.args.sides.now in
    let ps = c.args.paragraphs.now in
    let i = c.loop-at.at in
    let below : i < length ps = omega arith in
    rw c.in_ok-push.ensures.items
    (traverse-goes f c.loop-at.all.items c.new.result (drop (i + 1) ps) (drop i ps)
    c.in_ok-binary.binary _
    (drop_more ps i no_paragraph below
    ∙ ap (λ (p : Paragraph). p ∷ drop (i + 1) ps) (sym c.new.ensures))
    c.in_ok-binary.ensures c.loop-at.invariant)

pub returns : goal.returns
returns c =
    traverse-ends (given_at c.args.sides.now) c.loop-at.all.items
    (drop c.loop-at.at c.args.paragraphs.now) _
    (drop_all c.loop-at.at c.args.paragraphs.now (omega arith)) c.loop-at.invariant
