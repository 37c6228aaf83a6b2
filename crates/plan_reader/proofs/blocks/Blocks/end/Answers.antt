use Rattle.std.proofs.Common.{◌∙◌}
use Rattle.indexmap.proofs.CallerLemmas.{insert_entry-new}
use Rattle.plan_reader.proofs.WriteLaws.{name-new, end-table, end-gives}
use Rattle.plan_reader.proofs.blocks.Blocks.end.Goals as goal

pub invariant_of-result : goal.invariant_of-result
invariant_of-result g c =
    let it = c.self.inside in
    let new = name-new it.steps.items it.rows.items it.ended.entries c.args.name.items
    (rw (← c.self.view_is) at c.requires) in
    end-table it.steps.items it.rows.items c.close.new.rows.items it.ended.entries _ it.parts.items
    _ it.count c.args.name c.in_ok-part.part c.in_ok-part.ensures c.self.invariant
    (c.in_ok-insert.ensures.entries ∙ insert_entry-new _ it.ended c.args.name _ new)
    c.new.ensures.items

pub returns : goal.returns
returns g c =
    let it = c.self.inside in
    let new = name-new it.steps.items it.rows.items it.ended.entries c.args.name.items
    (rw (← c.self.view_is) at c.requires) in
    rw (← c.self.view_is)
    (end-gives it.steps.items it.rows.items c.close.new.rows.items it.ended.entries _ it.parts.items
    _ it.count c.args.name c.in_ok-part.part c.in_ok-part.ensures c.self.invariant
    (c.in_ok-insert.ensures.entries ∙ insert_entry-new _ it.ended c.args.name _ new)
    c.new.ensures.items)
