use Rattle.std.proofs.Common.{◌≡◌, ◌↔◌, true, ap, subst, ◌∙◌}
use Rattle.bit_rows.specs.Sets.{variants_of, HaveCommon}
use Rattle.farm_model.specs.Packages.{conflict}
use Rattle.sat_rows.specs.Rows.{variant_passes, conflicts_with}
use Rattle.may_rows.specs.Words.{Words, may_of}
use Rattle.may_rows.proofs.Bridges.{common_is}
use Rattle.may_rows.proofs.OtherNames.{may_hold-other}
use Rattle.may_rows.proofs.unpack.MayConflictVariantTest.passes.Goals as goal

pub returns : goal.returns
returns c =
    let u = c.args.universe.now in
    let v = c.args.variant in
    let view = ap (λ (w : Words). w.here) c.state.view_is in
    let words : c.deref.result.now ≡ c.args.self.now.state.now.here = cc
    (view, c.deref.ensures.value) in
    let told = subst
    (λ ws. (c.conflicts_with_some.result ≡ true) ↔ HaveCommon (variants_of ws)
    (variant_passes u (conflicts_with u v))) words
    (subst
    (λ t. (c.conflicts_with_some.result ≡ true)
    ↔ HaveCommon (variants_of c.deref.result.now) (variant_passes t (conflicts_with t v)))
    c.requires.fits.0
    c.conflicts_with_some.ensures) in
    common_is u c.args.self.now.state.now c.requires.fits.1 (conflicts_with u v)
    c.conflicts_with_some.result told
    ∙ may_hold-other u (may_of c.args.self.now.state.now) v (conflict u v)
