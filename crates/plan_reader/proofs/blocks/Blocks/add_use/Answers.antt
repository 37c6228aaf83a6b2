use Rattle.std.proofs.Common.{arith}
use Rattle.std.proofs.lemmas.Result.{err_from_is_err_and}
use Rattle.plan_reader.specs.LineErrors.{refusal_of_line}
use Rattle.plan_reader.proofs.WriteLaws.{use-fails, use-over, use-table, use-gives}
use Rattle.plan_reader.proofs.blocks.Blocks.add_use.Goals as goal

pub returns-in_err-whole : goal.returns-in_err-whole
returns-in_err-whole g c =
    let it = c.self.inside in
    let p = err_from_is_err_and c.from_residual.result c.from_residual.ensures.1 in
    rw (p.1, p.2, ← c.self.view_is)
    (use-fails refusal_of_line _ it.steps.items it.rows.items it.ended.entries c.args.name.now
    c.in_err-whole.ensures it.parts.items)

pub returns-then-whole-count : goal.returns-then-whole-count
returns-then-whole-count g c =
    let it = c.self.inside in
    let few = c.self.invariant.few in
    rw (← c.self.view_is)
    (use-over it.steps.items it.rows.items it.ended.entries it.parts.items it.count
    c.args.name.now c.in_ok-whole.whole c.self.invariant c.in_ok-whole.ensures
    (omega (arith, few, c.if-whole-count.true)))

pub invariant_of-result : goal.invariant_of-result
invariant_of-result g c =
    let it = c.self.inside in
    let few = c.self.invariant.few in
    use-table it.steps.items it.rows.items it.ended.entries it.parts.items it.count
    c.args.name.now c.in_ok-whole.whole c.self.invariant c.in_ok-whole.ensures
    (omega (arith, few, c.if-whole-count.false)) _ c.in_ok-push_part.ensures

pub returns : goal.returns
returns g c =
    let it = c.self.inside in
    let few = c.self.invariant.few in
    rw (← c.self.view_is)
    (use-gives it.steps.items it.rows.items it.ended.entries it.parts.items it.count
    c.args.name.now c.in_ok-whole.whole c.self.invariant c.in_ok-whole.ensures
    (omega (arith, few, c.if-whole-count.false)) _ c.in_ok-push_part.ensures)
