use Rattle.std.proofs.Common.{◌≡◌, ◌↔◌, true, ap, subst}
use Rattle.farm_model.specs.Packages.{satisfies}
use Rattle.sat_rows.specs.Inside.{HasInside}
use Rattle.may_rows.specs.Words.{Words}
use Rattle.may_rows.proofs.Bridges.{both_inside_is}
use Rattle.may_rows.proofs.state.MayHold.both_satisfy.Goals as goal

pub returns : goal.returns
returns c =
    let u = c.args.universe.now in
    let a = c.args.atom.now in
    let view = ap (λ (w : Words). w.both) c.self.view_is in
    let words : c.deref.result.now ≡ c.args.self.now.both = cc (view, c.deref.ensures.value) in
    let t = c.has_name_inside.result in
    both_inside_is u c.args.self.now c.requires.words (satisfies u a) t
    (subst (λ s. (t ≡ true) ↔ HasInside s a c.args.self.now.both) c.requires.same
    (subst (λ ws. (t ≡ true) ↔ HasInside c.args.tables.now a ws) words c.has_name_inside.ensures))
