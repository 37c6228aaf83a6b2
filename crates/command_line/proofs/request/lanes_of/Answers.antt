use Rattle.std.proofs.Common.{map, rules, sym, ◌∙◌}
use Rattle.command_line.proofs.WordLaws.{ends-word}
use Rattle.command_line.proofs.request.lanes_of.Goals as goal

pub returns-then-not-ends_word-clause-refused : goal.returns-then-not-ends_word-clause-refused
returns-then-not-ends_word-clause-refused g c = c.not_there.ensures (map g.S.AsStr.text c.args.words.now)

pub returns-in-Ok-clause-asked : goal.returns-in-Ok-clause-asked
returns-in-Ok-clause-asked g c = (
  (
    c.args.number.now,
    ends-word g.S.AsStr.text c.args.words.now c.args.number.now
        (sym c.ends_word.ensures ∙ c.if-not-ends_word.false),
    search rules,
  ),
  c.requires.paths,
)

pub returns-in_default-clause-refused : goal.returns-in_default-clause-refused
returns-in_default-clause-refused g c = c.wrong.ensures (map g.S.AsStr.text c.args.words.now)
