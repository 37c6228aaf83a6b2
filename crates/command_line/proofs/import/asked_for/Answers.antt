use Rattle.std.proofs.Common.{map}
use Rattle.command_line.proofs.import.asked_for.Goals as goal

pub returns-then-asks_twice-clause-refused : goal.returns-then-asks_twice-clause-refused
returns-then-asks_twice-clause-refused g c = c.wrong.ensures (map g.S.AsStr.text c.args.words.now)
