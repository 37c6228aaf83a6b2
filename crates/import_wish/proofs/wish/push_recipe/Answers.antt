use Rattle.std.proofs.Common.{◌∙◌, map}
use Rattle.std.specs.Option.{option_map}
use Rattle.deb_text.specs.Lists.{lists}
use Rattle.import_wish.specs.Targets.{every_view}
use Rattle.import_wish.specs.Chroot.{chroot_view}
use Rattle.import_wish.specs.Recipe.{recipe_view}
use Rattle.import_wish.proofs.WishLaws.{names-more, items-more}
use Rattle.import_wish.proofs.wish.push_recipe.Goals as goal

pub returns : goal.returns
returns c =
    let items = c.args.items.now in
    let names = names-more items.recipe_names.items _ c.in_ok-name.name c.args.recipe.name
    c.in_ok-push.ensures.items (c.in_ok-name.ensures.items ∙ c.deref.ensures.value) in
    let pushed = items-more recipe_view items.recipes.items _ c.args.recipe c.in_ok-push-2.ensures.items in
    λ j. record {
      recipes = pushed j;
      recipe_names = names j;
      chroots = map chroot_view items.chroots.items;
      chroot_names = lists items.chroot_names.items;
      every = option_map every_view items.every;
    }
