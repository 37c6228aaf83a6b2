use Rattle.std.proofs.Common.{map}
use Rattle.command_line.proofs.request.asked_by.Goals as goal

pub returns-in-None-clause-refused : goal.returns-in-None-clause-refused
returns-in-None-clause-refused g c = c.no_command.ensures (map g.S.AsStr.text c.args.words.now)
