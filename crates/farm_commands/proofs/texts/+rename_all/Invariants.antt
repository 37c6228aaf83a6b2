use Rattle.std.proofs.Common.{length}
use Rattle.farm_commands.proofs.texts.+rename_all.Given as goal

abbrev pub decreases-rename_all : goal.decreases-rename_all
decreases-rename_all g l = length l.files.now
