use Rattle.std.proofs.Common.{map, sym, ◌∙◌}
use Rattle.command_line.proofs.WordLaws.{is-word}
use Rattle.command_line.proofs.certificates.verify_of.Goals as goal

pub returns-then-not-is_word-clause-refused : goal.returns-then-not-is_word-clause-refused
returns-then-not-is_word-clause-refused g c = c.not_there.ensures (map g.S.AsStr.text c.args.words.now)

pub returns-clause-asked : goal.returns-clause-asked
returns-clause-asked g c = (
  is-word g.S.AsStr.text c.args.words.now c.args.cert.now
      (sym c.is_word.ensures ∙ c.if-not-is_word.false),
  c.requires.paths,
)
