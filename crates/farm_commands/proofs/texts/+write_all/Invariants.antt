use Rattle.std.proofs.Common.{length}
use Rattle.farm_commands.proofs.texts.+write_all.Given as goal

abbrev pub decreases-write_all : goal.decreases-write_all
decreases-write_all g l = length l.files.now
