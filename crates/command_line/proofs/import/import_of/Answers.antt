use Rattle.std.proofs.Common.{map, sym, ◌∙◌}
use Rattle.command_line.proofs.WordLaws.{is-word}
use Rattle.command_line.proofs.import.import_of.Goals as goal

pub returns-then-not-is_word-clause-refused : goal.returns-then-not-is_word-clause-refused
returns-then-not-is_word-clause-refused g c = c.not_there.ensures (map g.S.AsStr.text c.args.words.now)

pub returns-then-not-is_word-2-clause-refused : goal.returns-then-not-is_word-2-clause-refused
returns-then-not-is_word-2-clause-refused g c = c.not_there-then-not-is_word-2.ensures (map g.S.AsStr.text c.args.words.now)

pub with_indexes-requires-clause-wish : goal.with_indexes-requires-clause-wish
with_indexes-requires-clause-wish g c =
    is-word g.S.AsStr.text c.args.words.now _ (sym c.is_word.ensures ∙ c.if-not-is_word.false)

pub with_indexes-requires-clause-folder : goal.with_indexes-requires-clause-folder
with_indexes-requires-clause-folder g c =
    is-word g.S.AsStr.text c.args.words.now _ (sym c.is_word-2.ensures ∙ c.if-not-is_word-2.false)
