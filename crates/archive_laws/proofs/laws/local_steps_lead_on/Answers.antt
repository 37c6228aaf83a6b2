use Rattle.archive_laws.proofs.Ways.{local_steps_lead_on as law}
use Rattle.archive_laws.proofs.laws.local_steps_lead_on.Goals as goal

pub returns : goal.returns
returns c = law
