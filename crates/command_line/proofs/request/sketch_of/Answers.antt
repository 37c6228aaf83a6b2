use Rattle.std.proofs.Common.{map}
use Rattle.command_line.proofs.request.sketch_of.Goals as goal

pub returns-then-asks_twice-clause-refused : goal.returns-then-asks_twice-clause-refused
returns-then-asks_twice-clause-refused g c = c.wrong.ensures (map g.S.AsStr.text c.args.words.now)

pub returns-then-not-are_words-clause-refused : goal.returns-then-not-are_words-clause-refused
returns-then-not-are_words-clause-refused g c = c.not_there.ensures (map g.S.AsStr.text c.args.words.now)
