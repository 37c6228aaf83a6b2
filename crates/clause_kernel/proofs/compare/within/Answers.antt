use Rattle.std.proofs.Common.{not, ap, ◌∙◌}
use Rattle.clause_kernel.specs.Kernels.{lies_in}
use Rattle.clause_kernel.proofs.Pairs.{not-some_pair}
use Rattle.clause_kernel.proofs.Meanings.{within-bits}
use Rattle.clause_kernel.proofs.compare.within.Goals as goal

pub returns-clause-test : goal.returns-clause-test
returns-clause-test c = ap not c.some_pair.ensures ∙ not-some_pair lies_in c.args.a.now c.args.b.now

pub returns-clause-bits : goal.returns-clause-bits
returns-clause-bits c =
    rw (c.some_pair.ensures, not-some_pair lies_in c.args.a.now c.args.b.now)
    (within-bits c.args.a.now c.args.b.now c.requires)
