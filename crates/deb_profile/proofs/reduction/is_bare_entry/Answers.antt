use Rattle.std.proofs.Common.{◌∙◌}
use Rattle.deb_profile.proofs.ReductionLaws.{all-bare}
use Rattle.deb_profile.proofs.reduction.is_bare_entry.Goals as goal

pub returns-then-not-is_empty : goal.returns-then-not-is_empty
returns-then-not-is_empty c =
    rw c.alternatives.ensures at c.all_bare.ensures
    ∙ all-bare c.args.entry.now c.if-not-is_empty.ensures
