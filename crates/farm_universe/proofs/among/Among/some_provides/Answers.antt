use Rattle.std.proofs.Common.{◌≡◌, ◌∙◌, ◌&&◌, ℕ, Bool, ap, subst}
use Rattle.std.specs.List.{list_any}
use Rattle.item_index.specs.declared.item.Item.{Item}
use Rattle.item_index.specs.Items.{listed}
use Rattle.farm_universe.specs.Among.{is_another_member, provides_at, at_owner, AreFound}
use Rattle.farm_universe.proofs.AmongLaws.{any-provided}
use Rattle.farm_universe.proofs.among.Among.some_provides.Goals as goal

pub returns : goal.returns
returns c =
    let a = c.args.atom.now in
    let ms = c.args.self.now in
    let named = c.self.inside.named in
    let provided = c.self.inside.provided in
    let are : AreFound ms named provided =
    subst (λ ms. AreFound ms named provided) c.self.view_is c.self.invariant in
    let test : Item ℕ → Bool =
    λ at. at_owner (λ m. is_another_member c.args.besides m && provides_at at m a) ms at in
    let text : c.name.result.now ≡ a.name = c.name.ensures in
    let items : c.listed.result.now ≡ listed provided a.name =
    c.listed.ensures ∙ ap (listed provided) text in
    c.any_provided_at.ensures ∙ ap (list_any test) items
    ∙ any-provided ms named provided are c.args.besides a
