use Rattle.std.proofs.Common.{subst}
use Rattle.farm_model.specs.Packages.{breaks}
use Rattle.sat_rows.specs.Links.{declares, IsExclusion}
use Rattle.sat_rows.proofs.LinkLaws.{reaches_is}
use Rattle.sat_rows.proofs.tables.Tables.breaks_some.Goals as goal

pub returns : goal.returns
unfolding breaks
returns c =
    let u = c.args.self.now in
    let x = c.self.inside.breaks in
    let is = subst (λ u. IsExclusion u (λ binary. binary.breaks) x) c.self.view_is
    c.self.invariant.breaks in
    reaches_is u (declares u (λ binary. binary.breaks)) x.declared is.declared c.args.variant
    c.requires
    c.args.words.now c.names_some.result c.names_some.ensures
