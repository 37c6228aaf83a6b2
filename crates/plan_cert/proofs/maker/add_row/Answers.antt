use Rattle.std.proofs.Common.{◌≡◌, ℕ, ◌<◌, List, length, get_or, Some, sym, ap, ◌∙◌, arith}
use Rattle.plan_model.specs.Plan.{Plan, lane, instruction_at}
use Rattle.plan_model.specs.declared.instructions.Instruction.{Instruction}
use Rattle.known_rows.proofs.ReadAt.{read_at}
use Rattle.known_rows.specs.KnownRows.{rows_of}
use Rattle.plan_cert.proofs.NewRows.{rows-quiet, rows-learnt}
use Rattle.plan_cert.proofs.maker.add_row.Goals as goal

there : (p q : Plan) (l i : ℕ) (xs : List Instruction) (x : Instruction) → p ≡ q
    → xs ≡ (lane q l).instructions → i < length (lane p l).instructions → x ≡ get_or xs i x
    → instruction_at p l i ≡ Some x
there p q l i xs x same is lt at =
    let long = ap (λ (r : Plan). length (lane r l).instructions) same in
    ap (λ (r : Plan). instruction_at r l i) same
    ∙ read_at q l xs i x is (omega (arith, lt, long, ap length is)) at

pub returns-then-not-teaches : goal.returns-then-not-teaches
returns-then-not-teaches c =
    let p = c.args.making.known.now.plan in
    let l = c.args.number in
    let i = c.args.place in
    let x = c.index-instructions-place.result in
    let xs = c.instructions-instructions.result.now in
    let at = there p c.args.making.plan.now.lanes l i xs x c.args.making.of_plan
    (c.instructions-instructions.ensures ∙ ap (λ of. of.instructions) c.lane.ensures)
    c.requires.place c.index-instructions-place.is in
    rows-quiet c.args.making.known.now.universe p (rows_of c.args.making.known.now) l i x at
    c.args.rows.now.items c.requires.rows (sym c.teaches.ensures ∙ c.if-not-teaches.true)

pub returns : goal.returns
returns c =
    let p = c.args.making.known.now.plan in
    let l = c.args.number in
    let i = c.args.place in
    let x = c.index-instructions-place.result in
    let xs = c.instructions-instructions.result.now in
    let at = there p c.args.making.plan.now.lanes l i xs x c.args.making.of_plan
    (c.instructions-instructions.ensures ∙ ap (λ of. of.instructions) c.lane.ensures)
    c.requires.place c.index-instructions-place.is in
    rows-learnt c.args.making.known.now.universe p (rows_of c.args.making.known.now) l i x at
    c.args.rows.now.items c.requires.rows c.in_ok-new_row.field-0 c.push.new.self.items
    (sym c.teaches.ensures ∙ c.if-not-teaches.false) c.in_ok-new_row.ensures.shape
    c.in_ok-new_row.ensures.exact c.in_ok-push.ensures.items
