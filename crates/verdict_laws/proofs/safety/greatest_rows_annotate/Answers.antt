use Rattle.verdict_laws.proofs.MoreSafe.{greatest_rows_annotate as law}
use Rattle.verdict_laws.proofs.safety.greatest_rows_annotate.Goals as goal

pub returns : goal.returns
returns c = law
