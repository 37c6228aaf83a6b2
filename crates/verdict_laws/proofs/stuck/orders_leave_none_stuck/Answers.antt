use Rattle.verdict_laws.proofs.StuckOne.{orders_leave_none_stuck as law}
use Rattle.verdict_laws.proofs.stuck.orders_leave_none_stuck.Goals as goal

pub returns : goal.returns
returns c = law
