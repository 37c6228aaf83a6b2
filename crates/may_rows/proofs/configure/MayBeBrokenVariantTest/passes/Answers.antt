use Rattle.std.proofs.Common.{◌≡◌, ◌↔◌, true, ap, subst, ◌∙◌}
use Rattle.bit_rows.specs.Sets.{variants_of, HaveCommon}
use Rattle.farm_model.specs.Packages.{breaks}
use Rattle.sat_rows.specs.Rows.{variant_passes, breakers_of}
use Rattle.may_rows.specs.Words.{Words, may_of}
use Rattle.may_rows.proofs.Bridges.{common_is}
use Rattle.may_rows.proofs.OtherNames.{may_hold-other}
use Rattle.may_rows.proofs.configure.MayBeBrokenVariantTest.passes.Goals as goal

pub returns : goal.returns
returns c =
    let u = c.args.universe.now in
    let v = c.args.variant in
    let view = ap (λ (w : Words). w.here) c.state.view_is in
    let words : c.deref.result.now ≡ c.args.self.now.state.now.here = cc
    (view, c.deref.ensures.value) in
    let told = subst
    (λ ws. (c.is_broken_by_some.result ≡ true) ↔ HaveCommon (variants_of ws)
    (variant_passes u (breakers_of u v))) words
    (subst
    (λ t. (c.is_broken_by_some.result ≡ true)
    ↔ HaveCommon (variants_of c.deref.result.now) (variant_passes t (breakers_of t v)))
    c.requires.fits.0
    c.is_broken_by_some.ensures) in
    common_is u c.args.self.now.state.now c.requires.fits.1 (breakers_of u v)
    c.is_broken_by_some.result told
    ∙ may_hold-other u (may_of c.args.self.now.state.now) v (λ w. breaks u w v)
