use Rattle.text_laws.proofs.OrderLines.{order-again}
use Rattle.text_laws.proofs.ReadPlans.{plan-read}
use Rattle.text_laws.proofs.certificate.order_line_is_read_again.Goals as goal

pub returns : goal.returns
returns c u text p l is lt = order-again p (plan-read u text p is) l lt
