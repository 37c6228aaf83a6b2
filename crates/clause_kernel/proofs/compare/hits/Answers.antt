use Rattle.clause_kernel.proofs.Meanings.{hits-bits}
use Rattle.clause_kernel.proofs.compare.hits.Goals as goal

pub returns-clause-bits : goal.returns-clause-bits
returns-clause-bits c = rw c.some_pair.ensures (hits-bits c.args.a.now c.args.b.now c.requires)
