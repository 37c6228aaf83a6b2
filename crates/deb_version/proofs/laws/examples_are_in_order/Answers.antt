use Rattle.deb_version.proofs.PolicyTable.{policy_example, worked_examples}
use Rattle.deb_version.proofs.laws.examples_are_in_order.Goals as goal

pub returns : goal.returns
returns c = record { policy = policy_example; worked = worked_examples }
