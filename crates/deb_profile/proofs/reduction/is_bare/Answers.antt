use Rattle.std.proofs.Common.{◌∙◌, sym, ap}
use Rattle.deb_profile.specs.Reduction.{is_bare}
use Rattle.deb_profile.proofs.ReductionLaws.{bare-field}
use Rattle.deb_profile.proofs.reduction.is_bare.Goals as goal

pub returns-clause-stays : goal.returns-clause-stays
returns-clause-stays c are names active =
    bare-field names active c.args.relations.now
    (sym (c.are_bare.ensures ∙ ap is_bare c.entries.ensures) ∙ are)
