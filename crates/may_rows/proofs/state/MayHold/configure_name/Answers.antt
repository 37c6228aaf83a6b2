use Rattle.std.proofs.Common.{ap, ◌∙◌}
use Rattle.may_rows.specs.Words.{written}
use Rattle.may_rows.proofs.state.MayHold.configure_name.Goals as goal

pub returns : goal.returns
returns c =
    c.write.ensures
    ∙ ap (λ here. written c.args.self.now c.args.name here here here) c.here_word-here.ensures
