use Rattle.std.proofs.Common.{◌≡◌, length, rules}
use Rattle.plan_reader.proofs.WriteLaws.{add-table, add-gives}
use Rattle.plan_reader.proofs.blocks.Blocks.add.Goals as goal

pub invariant_of-result : goal.invariant_of-result
invariant_of-result g c =
    let it = c.self.inside in
    let place : c.len.result ≡ length it.steps.items = search (rules, c.len.ensures) in
    add-table it.steps.items it.rows.items it.ended.entries it.parts.items it.count
    c.args.step c.self.invariant c.if-count-ge-MOST_INSTRUCTIONS.false _ _ c.len.result place
    c.in_ok-push-2.ensures.items c.in_ok-push.ensures.items

pub returns : goal.returns
returns g c =
    let it = c.self.inside in
    let place : c.len.result ≡ length it.steps.items = search (rules, c.len.ensures) in
    rw (← c.self.view_is)
    (add-gives it.steps.items it.rows.items it.ended.entries it.parts.items it.count
    c.args.step c.self.invariant c.if-count-ge-MOST_INSTRUCTIONS.false _ _ c.len.result place
    c.in_ok-push-2.ensures.items c.in_ok-push.ensures.items)
