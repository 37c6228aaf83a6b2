use Rattle.std.proofs.Common.{◌==◌, not, ap, ◌∙◌}
use Rattle.clause_kernel.proofs.Pairs.{not-some_pair}
use Rattle.clause_kernel.proofs.Meanings.{same-equal}
use Rattle.clause_kernel.proofs.compare.same.Goals as goal

pub returns-clause-test : goal.returns-clause-test
returns-clause-test c = ap not c.some_pair.ensures ∙ not-some_pair ◌==◌ c.args.a.now c.args.b.now

pub returns-clause-equal : goal.returns-clause-equal
returns-clause-equal c =
    rw (c.some_pair.ensures, not-some_pair ◌==◌ c.args.a.now c.args.b.now)
    (same-equal c.args.a.now c.args.b.now c.requires)
