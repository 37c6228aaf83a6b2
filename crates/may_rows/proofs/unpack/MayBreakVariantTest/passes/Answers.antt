use Rattle.std.proofs.Common.{◌≡◌, ◌↔◌, true, ap, subst, ◌∙◌}
use Rattle.bit_rows.specs.Sets.{variants_of, HaveCommon}
use Rattle.farm_model.specs.Packages.{breaks}
use Rattle.sat_rows.specs.Rows.{variant_passes, broken_by}
use Rattle.may_rows.specs.Words.{Words, may_of}
use Rattle.may_rows.proofs.Bridges.{common_configured_is}
use Rattle.may_rows.proofs.OtherNames.{may_hold_configured-other}
use Rattle.may_rows.proofs.unpack.MayBreakVariantTest.passes.Goals as goal

pub returns : goal.returns
returns c =
    let u = c.args.universe.now in
    let v = c.args.variant in
    let view = ap (λ (w : Words). w.ready) c.state.view_is in
    let words : c.deref.result.now ≡ c.args.self.now.state.now.ready = cc
    (view, c.deref.ensures.value) in
    let told = subst
    (λ ws. (c.breaks_some.result ≡ true) ↔ HaveCommon (variants_of ws)
    (variant_passes u (broken_by u v)))
    words
    (subst
    (λ t. (c.breaks_some.result ≡ true)
    ↔ HaveCommon (variants_of c.deref.result.now) (variant_passes t (broken_by t v)))
    c.requires.fits.0
    c.breaks_some.ensures) in
    common_configured_is u c.args.self.now.state.now c.requires.fits.1 (broken_by u v)
    c.breaks_some.result told
    ∙ may_hold_configured-other u (may_of c.args.self.now.state.now) v (breaks u v)
