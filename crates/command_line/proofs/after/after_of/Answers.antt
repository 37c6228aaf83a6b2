use Rattle.std.proofs.Common.{map}
use Rattle.command_line.proofs.after.after_of.Goals as goal

pub returns-then-inputs_in-gt1-clause-refused : goal.returns-then-inputs_in-gt1-clause-refused
returns-then-inputs_in-gt1-clause-refused g c = c.wrong.ensures (map g.S.AsStr.text c.args.words.now)

pub returns-then-not-are_files-clause-refused : goal.returns-then-not-are_files-clause-refused
returns-then-not-are_files-clause-refused g c = c.not_there.ensures (map g.S.AsStr.text c.args.words.now)
