use Rattle.std.proofs.Common.{map}
use Rattle.command_line.proofs.request.request_of.Goals as goal

pub returns-in_default-clause-refused : goal.returns-in_default-clause-refused
returns-in_default-clause-refused g c = c.no_command.ensures (map g.S.AsStr.text c.args.words.now)
