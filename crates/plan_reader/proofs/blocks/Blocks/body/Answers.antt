use Rattle.std.proofs.lemmas.Result.{err_from_is_err_and}
use Rattle.plan_reader.specs.LineErrors.{refusal_of_line}
use Rattle.plan_reader.proofs.WriteLaws.{named-fails, found-whole, found-named}
use Rattle.plan_reader.proofs.blocks.Blocks.body.Goals as goal

pub returns-in_err-whole : goal.returns-in_err-whole
returns-in_err-whole g c =
    let it = c.self.inside in
    let p = err_from_is_err_and c.from_residual.result c.from_residual.ensures.1 in
    rw (p.1, p.2, ← c.self.view_is)
    (named-fails refusal_of_line _ it.steps.items it.rows.items it.ended.entries c.args.name.now
    c.in_err-whole.ensures)

pub open_part-requires-clause-known : goal.open_part-requires-clause-known
open_part-requires-clause-known g c =
    let it = c.self.inside in
    rw (c.deref.ensures.value, c.deref-2.ensures.value)
    (found-whole it.steps.items it.rows.items it.ended.entries it.parts.items it.count
    c.args.name.now c.in_ok-whole.whole c.self.invariant c.in_ok-whole.ensures).known

pub returns : goal.returns
returns g c =
    let it = c.self.inside in
    rw (← c.self.view_is, c.in_ok-open_part.ensures, c.deref.ensures.value, c.deref-2.ensures.value)
    (found-named it.steps.items it.rows.items it.ended.entries it.parts.items it.count
    c.args.name.now c.in_ok-whole.whole c.self.invariant c.in_ok-whole.ensures)
