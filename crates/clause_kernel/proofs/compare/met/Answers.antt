use Rattle.clause_kernel.proofs.Meanings.{met-bits}
use Rattle.clause_kernel.proofs.compare.met.Goals as goal

pub returns-clause-bits : goal.returns-clause-bits
returns-clause-bits c = rw c.some_pair.ensures (met-bits c.args.a.now c.args.b.now c.requires)
