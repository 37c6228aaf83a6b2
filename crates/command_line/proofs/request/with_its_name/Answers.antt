use Rattle.std.proofs.Common.{map}
use Rattle.command_line.proofs.request.with_its_name.Goals as goal

pub returns-then-not-is_named-clause-refused : goal.returns-then-not-is_named-clause-refused
returns-then-not-is_named-clause-refused g c =
    c.not_there.ensures (map g.S.AsStr.text c.args.words.now)
