use Rattle.std.proofs.Common.{map}
use Rattle.command_line.proofs.drive.drive_of.Goals as goal

pub returns-then-names_input-clause-refused : goal.returns-then-names_input-clause-refused
returns-then-names_input-clause-refused g c = c.wrong.ensures (map g.S.AsStr.text c.args.words.now)

pub returns-then-not-is_named-clause-refused : goal.returns-then-not-is_named-clause-refused
returns-then-not-is_named-clause-refused g c = c.not_there.ensures (map g.S.AsStr.text c.args.words.now)

pub returns-clause-asked : goal.returns-clause-asked
returns-clause-asked g c = (
  c.requires.paths,
  c.is_named.ensures c.if-not-is_named.false,
)
