use Rattle.std.proofs.Common.{ap₂, ◌∙◌}
use Rattle.may_rows.specs.Words.{written}
use Rattle.may_rows.proofs.state.MayHold.withdraw_name.Goals as goal

pub returns : goal.returns
returns c =
    c.write.ensures
    ∙ ap₂ (λ here ready. written c.args.self.now c.args.name here 0 ready)
    c.here_word-here.ensures c.ready_word-ready.ensures
