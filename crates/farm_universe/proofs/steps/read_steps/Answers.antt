use Rattle.std.proofs.Common.{◌≡◌, arith, subst, Ok}
use Rattle.std.proofs.lemmas.Result.{err_from_is_err_and}
use Rattle.deb_text.specs.Answers.{refusal_of, Fails}
use Rattle.deb_text.proofs.StepLaws.{place-goes, place-stops, place-ends}
use Rattle.deb_stanza.specs.Stanza.{Paragraph}
use Rattle.farm_universe.proofs.steps.read_steps.Goals as goal

pub returns-in_err-take-clause-read : goal.returns-in_err-take-clause-read
returns-in_err-take-clause-read g c =
    let p = err_from_is_err_and c.from_residual.result c.from_residual.ensures.1 in
    let e = c.in_err-take.field-0.0 in
    let step = g.S.ParagraphStep.step c.args.step.now in
    let said = g.S.ParagraphStep.said c.loop-number.so_far in
    let stops =
    subst (λ (q : Paragraph). Fails refusal_of e (step said q))
    c.new-paragraph.ensures c.in_err-take.ensures.read in
    rw (p.1, p.2)
    (place-stops step refusal_of e c.args.paragraphs.now
    c.loop-number.number _ _ _ (omega arith) stops c.loop-number.invariant.so_far)

pub loop-number-preserved : goal.loop-number-preserved
loop-number-preserved g c =
    let step = g.S.ParagraphStep.step c.args.step.now in
    let said = g.S.ParagraphStep.said in
    let goes =
    subst (λ (q : Paragraph). step (said c.loop-number.so_far) q ≡ Ok (said c.take.new.so_far))
    c.new-paragraph.ensures c.in_ok-take.ensures.read in
    record {
      so_far =
          place-goes step c.args.paragraphs.now c.loop-number.number _ _ _ _
          (omega arith) goes c.loop-number.invariant.so_far;
      kept = c.in_ok-take.ensures.kept;
    }

pub returns-clause-read : goal.returns-clause-read
returns-clause-read g c =
    place-ends (g.S.ParagraphStep.step c.args.step.now) c.args.paragraphs.now c.loop-number.number
    _ _ (omega arith) c.loop-number.invariant.so_far
