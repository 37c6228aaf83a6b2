use Rattle.clause_kernel.proofs.Meanings.{joined-bits}
use Rattle.clause_kernel.proofs.change.or_into.Goals as goal

pub returns-clause-bits : goal.returns-clause-bits
returns-clause-bits c =
    rw c.change_each.ensures.row (joined-bits c.args.a.now c.args.b.now c.requires)
