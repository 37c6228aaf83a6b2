-- Policy's own example, and others of whole versions, by computation.
use Rattle.std.proofs.Common.{refl}
use Rattle.deb_version.specs.Order.{runs_of, part_cmp, version_cmp}
use Rattle.deb_version.specs.Grammar.{version_at}
use Rattle.deb_version.specs.Laws.{PolicyExample, WorkedExamples}

pub policy_example : PolicyExample
unfolding runs_of part_cmp
policy_example = refl

pub worked_examples : WorkedExamples
unfolding runs_of part_cmp version_cmp version_at
worked_examples = record { tilde = refl; candidate = refl; absent = refl }
