use Rattle.std.proofs.Common.{◌≡◌, ◌++◌, ◌∷◌, [], length, arith, ap, sym, ◌∙◌, append_assoc, subst, Ok}
use Rattle.std.proofs.lemmas.List.{length-append}
use Rattle.std.proofs.lemmas.Result.{err_from_is_err_and}
use Rattle.deb_text.specs.Answers.{refusal_of, Fails}
use Rattle.deb_text.proofs.StepLaws.{place-goes, place-stops}
use Rattle.deb_stanza.specs.Stanza.{Paragraph}
use Rattle.farm_universe.proofs.PartLaws.{next_below}
use Rattle.farm_universe.proofs.side_by_side.take_part.Goals as goal

pub returns-in_err-take-clause-fails : goal.returns-in_err-take-clause-fails
returns-in_err-take-clause-fails g c =
    let p = err_from_is_err_and c.from_residual.result c.from_residual.ensures.1 in
    let e = c.in_err-take.field-0.0 in
    let step = g.S.ParagraphStep.step c.args.step.now in
    let said = g.S.ParagraphStep.said c.loop-part.so_far in
    let inv = c.loop-part.invariant.2 in
    let lt =
    next_below c.args.first c.loop-part.number (length c.args.paragraphs.now) c.args.parts.items
    c.loop-part.yielded c.in-Some.part c.loop-part.part-iterator.rest.items _ inv.number inv.rest
    c.in-Some.ensures.steps.0 c.requires.within in
    let stops =
    subst (λ (q : Paragraph). Fails refusal_of e (step said q))
    c.new-paragraph.ensures c.in_err-take.ensures.read in
    rw (p.1, p.2)
    (place-stops step refusal_of e c.args.paragraphs.now
    c.loop-part.number _ _ _ lt stops inv.so_far)

pub overflow_add-number : goal.overflow_add-number
overflow_add-number g c =
    let inv = c.loop-part.invariant.2 in
    let lt =
    next_below c.args.first c.loop-part.number (length c.args.paragraphs.now) c.args.parts.items
    c.loop-part.yielded c.in-Some.part c.loop-part.part-iterator.rest.items _ inv.number inv.rest
    c.in-Some.ensures.steps.0 c.requires.within in
    omega (arith, lt, c.count-count.ensures)

pub loop-part-preserved : goal.loop-part-preserved
loop-part-preserved g c =
    let step = g.S.ParagraphStep.step c.args.step.now in
    let said = g.S.ParagraphStep.said in
    let inv = c.loop-part.invariant.2 in
    let yielded = c.loop-part.yielded in
    let part = c.in-Some.part in
    let lt =
    next_below c.args.first c.loop-part.number (length c.args.paragraphs.now) c.args.parts.items
    yielded part c.loop-part.part-iterator.rest.items _ inv.number inv.rest
    c.in-Some.ensures.steps.0 c.requires.within in
    let goes =
    subst (λ (q : Paragraph). step (said c.loop-part.so_far) q ≡ Ok (said c.take.new.so_far))
    c.new-paragraph.ensures c.in_ok-take.ensures.read in (
      tt,
      tt,
      record {
        number = omega (arith, inv.number, length-append yielded (part ∷ []));
        rest =
            inv.rest ∙ ap (λ more. yielded ++ more) c.in-Some.ensures.steps.0
            ∙ sym (append_assoc yielded (part ∷ []) _);
        so_far =
            place-goes step c.args.paragraphs.now c.loop-part.number _ _ _ _ lt goes inv.so_far;
        kept = c.in_ok-take.ensures.kept;
      },
    )
