use Rattle.archive_laws.proofs.NextOutput.{next_output_is_by_number as law}
use Rattle.archive_laws.proofs.laws.next_output_is_by_number.Goals as goal

pub returns : goal.returns
returns c = law
