use Rattle.std.proofs.Common.{◌∙◌}
use Rattle.plan_reader.proofs.WriteLaws.{any-ended}
use Rattle.plan_reader.proofs.blocks.Blocks.has.Goals as goal

pub returns : goal.returns
returns g c =
    rw (← c.self.view_is)
    (c.contains_key.ensures
    ∙ any-ended c.self.inside.steps.items c.self.inside.rows.items c.args.name.now
    c.self.inside.ended.entries)
