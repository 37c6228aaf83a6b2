use Rattle.std.proofs.Common.{◌+◌, not, map, sym, ap, ◌∙◌, arith}
use Rattle.std.proofs.lemmas.Result.{err_from_is_err_and}
use Rattle.deb_text.specs.Common.{refusal_of, is_comment, control_lines}
use Rattle.deb_text.proofs.LineLaws.{lines_kept-keeps, lines_kept-ends}
use Rattle.deb_text.proofs.StepLaws.{steps-goes, steps-stops, steps-ends, judged-made, judged-fails}
use Rattle.deb_stanza.specs.Draft.{state_of, draft_step}
use Rattle.deb_stanza.specs.Stanza.{fault_of}
use Rattle.deb_stanza.specs.View.{paragraph_of_raw}
use Rattle.deb_stanza.proofs.StateLaws.{steps-lines, judged-paragraphs}
use Rattle.deb_stanza.proofs.draft.read_lines.Goals as goal

pub loop-bytes-init : goal.loop-bytes-init
loop-bytes-init c = record {
  so_far = rw c.empty_draft-draft.ensures.state (steps-lines (control_lines 1 c.args.text.now));
  fit = c.empty_draft-draft.ensures.fit;
  in_range = omega arith;
  room = rw c.empty_draft-draft.ensures.bytes (omega arith);
}

pub loop-bytes-preserved-in-Continue-1 : goal.loop-bytes-preserved-in-Continue-1
loop-bytes-preserved-in-Continue-1 c =
    let kept =
    lines_kept-keeps (λ line. not (is_comment line)) (c.loop-bytes.number + 1)
    c.loop-bytes.rest.now c.in-Some.bytes.now c.in-Some.behind.now c.in-Some.ensures.line
    (ap not (sym c.is_comment.ensures ∙ c.if-not-is_comment.true)) in
    record {
      so_far =
          steps-goes draft_step _ _ _ _ _ _ kept c.in_ok-take_line.ensures.state
          c.loop-bytes.invariant.so_far;
      fit = c.in_ok-take_line.ensures.fit;
      in_range = omega (arith, c.in-Some.ensures.shorter);
      room = omega (arith, c.in-Some.ensures.within, c.in_ok-take_line.ensures.grown);
    }

pub returns-in_err-take_line-clause-read : goal.returns-in_err-take_line-clause-read
returns-in_err-take_line-clause-read c =
    let p = err_from_is_err_and c.from_residual.result c.from_residual.ensures.1 in
    let kept =
    lines_kept-keeps (λ line. not (is_comment line)) (c.loop-bytes.number + 1)
    c.loop-bytes.rest.now c.in-Some.bytes.now c.in-Some.behind.now c.in-Some.ensures.line
    (ap not (sym c.is_comment.ensures ∙ c.if-not-is_comment.true)) in
    let e = c.in_err-take_line.field-0.0 in
    let stops =
    steps-stops draft_step refusal_of e _ _ _ _ _ kept c.in_err-take_line.ensures.state
    c.loop-bytes.invariant.so_far in
    rw (p.1, p.2, ← judged-paragraphs (control_lines 1 c.args.text.now))
    (judged-fails fault_of state_of (λ s. map paragraph_of_raw s.raws) refusal_of e
    (control_lines 1 c.args.text.now) stops)

pub returns-clause-read : goal.returns-clause-read
returns-clause-read c =
    let lines = control_lines 1 c.args.text.now in
    let ends =
    lines_kept-ends (λ line. not (is_comment line))
    (c.loop-bytes.number + 1) c.loop-bytes.rest.now c.in_default.ensures.none in
    let total = steps-ends draft_step _ _ _ ends c.loop-bytes.invariant.so_far in
    sym (judged-paragraphs lines)
    ∙ judged-made fault_of state_of (λ s. map paragraph_of_raw s.raws) lines _ total
