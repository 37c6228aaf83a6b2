use Rattle.std.proofs.Common.{◌≡◌, ◌∙◌, ◌&&◌, Bool, ap, subst}
use Rattle.std.specs.List.{list_any}
use Rattle.deb_relation.specs.Satisfaction.{is_its_own}
use Rattle.item_index.specs.Items.{listed}
use Rattle.farm_universe.specs.Among.{is_another_member, at_owner, AreFound}
use Rattle.farm_universe.specs.BaseText.{Member, member_facts}
use Rattle.farm_universe.proofs.AmongLaws.{any-named}
use Rattle.farm_universe.proofs.among.Among.some_named.Goals as goal

pub returns : goal.returns
returns c =
    let a = c.args.atom.now in
    let ms = c.args.self.now in
    let named = c.self.inside.named in
    let provided = c.self.inside.provided in
    let are : AreFound ms named provided =
    subst (λ ms. AreFound ms named provided) c.self.view_is c.self.invariant in
    let test : Member → Bool = λ m. is_another_member c.args.besides m
    && is_its_own (member_facts m) a in
    let text : c.name.result.now ≡ a.name = c.name.ensures in
    let items : c.listed.result.now ≡ listed named a.name =
    c.listed.ensures ∙ ap (listed named) text in
    c.any_named_at.ensures ∙ ap (list_any (at_owner test ms)) items
    ∙ any-named ms named provided are c.args.besides a
