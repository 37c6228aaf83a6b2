use Rattle.std.proofs.Common.{◌≡◌, ◌<◌, ℕ, List, length, get_or, Some, sym, ap, subst, ◌∙◌, arith}
use Rattle.plan_model.specs.Plan.{Plan, lane, instruction_at}
use Rattle.plan_model.specs.declared.instructions.Instruction.{Instruction}
use Rattle.plan_verifier.specs.Accepted.{known_rows}
use Rattle.known_rows.proofs.ReadAt.{read_at}
use Rattle.cert_writer.proofs.Places.{place-quiet, place-learnt}
use Rattle.cert_writer.proofs.SendingLaws.{none_sent}
use Rattle.cert_writer.proofs.writer.write_place.Goals as goal
use Rattle.cert_writer.specs.Lines.{row_text}
use Rattle.cert_writer.specs.Sending.{IsSent, IsSentOn}

there : (p : Plan) (l i : ℕ) (xs : List Instruction) (x : Instruction) → xs
    ≡ (lane p l).instructions
    → i < length (lane p l).instructions → x ≡ get_or xs i x → instruction_at p l i ≡ Some x
there p l i xs x is lt at = read_at p l xs i x is (omega (arith, lt, ap length is)) at

pub returns-then-not-teaches-clause-sent : goal.returns-then-not-teaches-clause-sent
returns-then-not-teaches-clause-sent g c =
    let a = c.args.accepted.now in
    let l = c.args.number in
    let i = c.args.place in
    let x = c.index-instructions-place.result in
    let at = there a.plan l i c.instructions-instructions.result.now x
    (c.instructions-instructions.ensures ∙ ap (λ of. of.instructions) c.lane.ensures
    ∙ ap (λ (p : Plan). (lane p l).instructions) c.plan.ensures.lanes)
    c.requires.place c.index-instructions-place.is in
    let s = g.S.Sink.state c.args.out.now in
    subst (IsSent s s c.args.pending.now c.args.pending.now)
    (sym (place-quiet a.universe a.plan (known_rows a) l i x at
    (sym c.teaches.ensures ∙ c.if-not-teaches.true)))
    (none_sent s c.args.pending.now c.requires.going)

pub returns-clause-sent : goal.returns-clause-sent
returns-clause-sent g c =
    let a = c.args.accepted.now in
    let l = c.args.number in
    let i = c.args.place in
    let x = c.index-instructions-place.result in
    let at = there a.plan l i c.instructions-instructions.result.now x
    (c.instructions-instructions.ensures ∙ ap (λ of. of.instructions) c.lane.ensures
    ∙ ap (λ (p : Plan). (lane p l).instructions) c.plan.ensures.lanes)
    c.requires.place c.index-instructions-place.is in
    subst (λ text. IsSentOn (g.S.Sink.state c.args.out.now) (g.S.Sink.state c.write_known.new.out)
    c.args.pending.now c.write_known.new.pending text c.write_known.result)
    (ap (row_text a.universe a.plan (known_rows a) l) c.go_on.ensures.place
    ∙ sym (place-learnt a.universe a.plan (known_rows a) l i x at
    (sym c.teaches.ensures ∙ c.if-not-teaches.false)))
    c.write_known.ensures.sent
