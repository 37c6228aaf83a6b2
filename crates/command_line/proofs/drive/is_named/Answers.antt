use Rattle.std.proofs.Common.{map, sym, subst, ◌∙◌}
use Rattle.std.specs.Option.{option_map}
use Rattle.command_line.proofs.WordLaws.{ends-word}
use Rattle.command_line.specs.Words.{IsJournalWord}
use Rattle.command_line.proofs.drive.is_named.Goals as goal

pub returns-in-Some : goal.returns-in-Some
returns-in-Some g c h =
    subst (λ journal. IsJournalWord (map g.S.AsStr.text c.args.words.now)
    (option_map (λ name. name.now) journal)) (sym c.in-Some.is)
    (ends-word g.S.AsStr.text c.args.words.now c.in-Some.name.now (sym c.ends_word.ensures ∙ h))
