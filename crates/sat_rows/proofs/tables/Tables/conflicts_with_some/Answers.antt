use Rattle.std.proofs.Common.{refl, subst}
use Rattle.farm_model.specs.Packages.{conflict}
use Rattle.sat_rows.specs.Links.{reaches, declares, IsExclusion}
use Rattle.sat_rows.proofs.LinkLaws.{reaches_is, either_is}
use Rattle.sat_rows.proofs.tables.Tables.conflicts_with_some.Goals as goal

pub returns : goal.returns
unfolding conflict
returns c =
    let u = c.args.self.now in
    let v = c.args.variant in
    let words = c.args.words.now in
    let x = c.self.inside.conflicts in
    let is = subst (λ u. IsExclusion u (λ binary. binary.conflicts) x) c.self.view_is
    c.self.invariant.conflicts in
    let test = declares u (λ binary. binary.conflicts) in
    either_is u v (test v) (λ w. test w v) words (reaches x.declared v words)
    (reaches x.declaring v words) c.has_some.result c.has_some.ensures
    (reaches_is u test x.declared is.declared v c.requires words (reaches x.declared v words) refl)
    (reaches_is u (λ v w. test w v) x.declaring is.declaring v c.requires words
    (reaches x.declaring v words) refl)
