use Rattle.clause_kernel.proofs.Meanings.{common-bits}
use Rattle.clause_kernel.proofs.change.and_into.Goals as goal

pub returns-clause-bits : goal.returns-clause-bits
returns-clause-bits c =
    rw c.change_each.ensures.row (common-bits c.args.a.now c.args.b.now c.requires)
