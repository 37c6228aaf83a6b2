use Rattle.std.proofs.Common.{inl, sym, ◌∙◌}
use Rattle.command_line.specs.Words as spec
use Rattle.command_line.proofs.WordLaws.{any-map}
use Rattle.command_line.proofs.named.asks_help.Goals as goal

pub returns-then-has_help_option : goal.returns-then-has_help_option
returns-then-has_help_option g c h =
    inl (any-map g.S.AsStr.text spec.is_help_option c.args.words.now
    ∙ sym c.has_help_option.ensures ∙ c.if-has_help_option.true)
