use Rattle.std.proofs.Common.{[], sym, ◌∙◌}
use Rattle.deb_profile.proofs.ReductionLaws.{bare-atom}
use Rattle.deb_profile.proofs.reading.strip.Goals as goal

pub returns-then-is_bare : goal.returns-then-is_bare
returns-then-is_bare c =
    sym (bare-atom c.args.names.now [] c.args.atom
    (sym c.is_bare.ensures.bare ∙ c.if-is_bare.true)).0
