use Rattle.std.proofs.Common.{ap, ◌∙◌, ◌++◌}
use Rattle.target_import.proofs.TargetLaws.{notes-behind}
use Rattle.target_import.proofs.call.with_table.Goals as goal

pub returns-clause-noted : goal.returns-clause-noted
returns-clause-noted c =
    notes-behind c.args.judged.unmet.items c.args.table.items c.args.judged.lines.items
    c.extend_from_slice.new.self.items
    (c.in_ok-extend_from_slice.ensures.items
    ∙ ap (λ lines. c.args.table.items ++ lines) c.deref.ensures.value) c.requires
