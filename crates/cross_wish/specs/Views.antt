-- What the code reads of a wish, as the definitions have it.
use Rattle.std.specs.Prelude.{List, map}
use Rattle.deb_text.specs.Common.{lists, words}
use Rattle.import_wish.specs.Chroot.{chroot_view}
use Rattle.import_wish.specs.Head.{head_view}
use Rattle.import_wish.specs.Recipe.{recipe_view}
use Rattle.cross_wish.specs.Wish as wish
use Rattle.cross_wish.specs.declared.head.CrossHead.{CrossHead}
use Rattle.cross_wish.specs.declared.recipe.CrossRecipe.{CrossRecipe}
use Rattle.cross_wish.specs.declared.chroot.CrossChroot.{CrossChroot}
use Rattle.cross_wish.specs.declared.wish.CrossItems.{CrossItems}
use Rattle.cross_wish.specs.declared.wish.CrossWish.{CrossWish}

abbrev pub cross_head_view : CrossHead → wish.CrossHead
cross_head_view head = record {
  native = head_view head.native;
  sides = head.sides;
  essential = head.essential;
}

abbrev pub cross_recipe_view : CrossRecipe → wish.CrossRecipe
cross_recipe_view recipe = record {
  native = recipe_view recipe.native;
  side = recipe.side;
  mode = recipe.mode;
  profiles = words recipe.profiles.items;
}

abbrev pub cross_chroot_view : CrossChroot → wish.CrossChroot
cross_chroot_view chroot = record {
  native = chroot_view chroot.native;
  is_said = chroot.is_said;
  line = chroot.line;
}

abbrev pub cross_items_view : CrossItems → wish.CrossItems
cross_items_view items = record {
  recipes = map cross_recipe_view items.recipes.items;
  recipe_names = lists items.recipe_names.items;
  chroots = map cross_chroot_view items.chroots.items;
  chroot_names = lists items.chroot_names.items;
}

abbrev pub cross_wish_view : CrossWish → wish.CrossWish
cross_wish_view it = record { head = cross_head_view it.head; items = cross_items_view it.items }
