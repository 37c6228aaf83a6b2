use Rattle.std.proofs.Common.{◌∙◌, map}
use Rattle.std.specs.Option.{option_map}
use Rattle.deb_text.specs.Lists.{lists}
use Rattle.import_wish.specs.Targets.{every_view}
use Rattle.import_wish.specs.Chroot.{chroot_view}
use Rattle.import_wish.specs.Recipe.{recipe_view}
use Rattle.import_wish.proofs.WishLaws.{names-more, items-more}
use Rattle.import_wish.proofs.wish.push_chroot.Goals as goal

pub returns : goal.returns
returns c =
    let items = c.args.items.now in
    let names = names-more items.chroot_names.items _ c.in_ok-name.name c.args.chroot.name
    c.in_ok-push.ensures.items (c.in_ok-name.ensures.items ∙ c.deref.ensures.value) in
    let pushed = items-more chroot_view items.chroots.items _ c.args.chroot c.in_ok-push-2.ensures.items in
    λ j. record {
      recipes = map recipe_view items.recipes.items;
      recipe_names = lists items.recipe_names.items;
      chroots = pushed j;
      chroot_names = names j;
      every = option_map every_view items.every;
    }
