use Rattle.std.proofs.Common.{map, subst, sym, ◌∙◌}
use Rattle.command_line.proofs.WordLaws.{end-words}
use Rattle.command_line.proofs.import.names_behind.Goals as goal
use Rattle.command_line.specs.Words.{EndWords}

pub returns-then-not-end_words-clause-refused : goal.returns-then-not-end_words-clause-refused
returns-then-not-end_words-clause-refused g c = c.not_there.ensures (map g.S.AsStr.text c.args.words.now)

pub returns-clause-found : goal.returns-clause-found
returns-clause-found g c =
    subst (λ names. EndWords (map g.S.AsStr.text c.args.words.now) names)
    (sym c.in_ok-from_slice.ensures.items)
    (end-words g.S.AsStr.text c.args.words.now c.in-Some.names.now
    (sym c.end_words.ensures ∙ c.if-not-end_words.false))
