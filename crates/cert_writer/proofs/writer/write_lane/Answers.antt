use Rattle.std.proofs.Common.{◌≡◌, ◌+◌, ◌<◌, ℕ, List, length, Some, sym, ap, subst, ◌∙◌, arith}
use Rattle.std.proofs.lemmas.Result.{err_from_is_err_and}
use Rattle.plan_model.specs.Plan.{Plan, lane, instruction_at}
use Rattle.plan_model.specs.declared.instructions.Instruction.{Instruction}
use Rattle.plan_verifier.specs.Accepted.{known_rows}
use Rattle.farm_laws.proofs.Archive.{element}
use Rattle.cert_writer.proofs.Places.{text_to, text_behind, text-next, text-all, text-around}
use Rattle.cert_writer.proofs.SendingLaws.{none_sent, sent_twice, stopped_within}
use Rattle.cert_writer.proofs.writer.write_lane.Goals as goal
use Rattle.cert_writer.specs.Lines.{place_row_text, lane_text}
use Rattle.cert_writer.specs.Sending.{IsSent}

there : (p : Plan) (l i : ℕ) (xs : List Instruction) → xs ≡ (lane p l).instructions → i < length xs
    → (x : Instruction) × (instruction_at p l i ≡ Some x)
there p l i xs is lt = element (lane p l).instructions i (omega (arith, lt, ap length is))

pub loop-place-init : goal.loop-place-init
loop-place-init g c = record {
  sent = none_sent (g.S.Sink.state c.args.out.now) c.args.pending.now c.requires.going;
  carried = c.begin.ensures;
}

pub loop-place-preserved : goal.loop-place-preserved
loop-place-preserved g c =
    let a = c.args.accepted.now in
    let l = c.args.number in
    let i = c.loop-place.place in
    let x = there a.plan l i c.instructions-place-end.result.now
    (c.instructions-place-end.ensures ∙ ap (λ of. of.instructions) c.lane.ensures
    ∙ ap (λ (p : Plan). (lane p l).instructions) c.plan.ensures.lanes) c.loop-place-test.true in
    let old = g.S.Sink.state c.args.out.now in
    let new = g.S.Sink.state c.write_place.new.out in
    record {
      sent = subst (IsSent old new c.args.pending.now c.write_place.new.pending)
          (sym (text-next a.universe a.plan (known_rows a) l i x.0 x.1))
          (sent_twice old (g.S.Sink.state c.loop-place.out) c.args.pending.now c.loop-place.pending
          (text_to a.universe a.plan (known_rows a) l i)
          (place_row_text a.universe a.plan (known_rows a) l i)
          c.loop-place.invariant.sent new c.write_place.new.pending
          c.in_ok-write_place.ensures.sent);
      carried = c.in_ok-write_place.ensures.carried;
    }

pub returns-in_err-write_place-clause-sent : goal.returns-in_err-write_place-clause-sent
returns-in_err-write_place-clause-sent g c =
    let a = c.args.accepted.now in
    let l = c.args.number in
    let i = c.loop-place.place in
    let x = there a.plan l i c.instructions-place-end.result.now
    (c.instructions-place-end.ensures ∙ ap (λ of. of.instructions) c.lane.ensures
    ∙ ap (λ (p : Plan). (lane p l).instructions) c.plan.ensures.lanes) c.loop-place-test.true in
    let e = err_from_is_err_and c.from_residual.result c.from_residual.ensures.1 in
    rw (e.1, e.2)
    (stopped_within (g.S.Sink.state c.args.out.now) (g.S.Sink.state c.loop-place.out)
    (g.S.Sink.state c.write_place.new.out) c.args.pending.now c.loop-place.pending
    (text_to a.universe a.plan (known_rows a) l i)
    (place_row_text a.universe a.plan (known_rows a) l i)
    (text_behind a.universe a.plan (known_rows a) l (i + 1))
    (lane_text a.universe a.plan (known_rows a) l) _
    (text-around a.universe a.plan (known_rows a) l i x.0 x.1) c.loop-place.invariant.sent
    c.in_err-write_place.ensures.sent)

pub returns-clause-sent : goal.returns-clause-sent
returns-clause-sent g c =
    let a = c.args.accepted.now in
    let l = c.args.number in
    let is = c.instructions-place-end.ensures ∙ ap (λ of. of.instructions) c.lane.ensures
    ∙ ap (λ (p : Plan). (lane p l).instructions) c.plan.ensures.lanes in
    subst (IsSent (g.S.Sink.state c.args.out.now) (g.S.Sink.state c.loop-place.out)
    c.args.pending.now c.loop-place.pending)
    (text-all a.universe a.plan (known_rows a) l c.loop-place.place
    (omega (arith, c.loop-place-test.false, ap length is)))
    c.loop-place.invariant.sent

pub returns-clause-ready : goal.returns-clause-ready
returns-clause-ready g c =
    let is = c.loop-place.invariant.carried in
    record { long = is.words.long; spelled = is.spelled }
