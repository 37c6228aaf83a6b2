use Rattle.deb_version.proofs.TieLaws as ties
use Rattle.deb_version.proofs.laws.ties_mean_same.Goals as goal

pub returns : goal.returns
returns c = ties.ties_mean_same
