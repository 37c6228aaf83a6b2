use Rattle.std.proofs.Common.{◌<◌, ◌∙◌, sym, ap, subst, length, []}
use Rattle.std.specs.Global.{Vec}
use Rattle.std.proofs.lemmas.List.{length-map, get_or-map}
use Rattle.farm_model.specs.Common.{names, variants, Package, Universe}
use Rattle.farm_universe.proofs.universe.Universe.packages_named.Goals as goal

pub returns-clause-few : goal.returns-clause-few
unfolding names variants
returns-clause-few c =
    let vs = c.self.inside.packages.items in
    let below =
    subst (λ (u : Universe). c.args.name < length u.packages) (sym c.self.view_is) c.requires in
    let lt : c.args.name < length vs = rw length-map at below in
    let is =
    c.deref.ensures.value ∙ ap (λ (v : Vec Package). v.items) c.index.ensures
    ∙ sym (get_or-map (λ (v : Vec Package). v.items) vs c.args.name c.index.result.now [] lt) in
    rw is (c.self.invariant.sound.few c.args.name)
