-- A wish as a whole.
--
--   wish_at ps      what its paragraphs say, or their first fault, told at a line
--   choice_of wish  what each build has that is chosen, if the wish leaves a choice
use Rattle.std.specs.Prelude.{ℕ, Bool, true, false, ◌&&◌, List, [], ◌∷◌, ◌++◌, map, drop, codes, Option, Some, None, is_none, is_some, Result, Ok, Err, if◌then◌else◌}
use Rattle.std.specs.Option.{option_map}
use Rattle.deb_text.specs.Common.{fault_at, placed, is_nil, lists, ◌>>=◌, steps}
use Rattle.deb_text.specs.declared.fault.Fault.{Fault}
use Rattle.deb_stanza.specs.Stanza.{Paragraph, paragraph_at, value_of}
use Rattle.deb_fields.specs.declared.error.TheConstants.{ABSENT}
use Rattle.import_wish.specs.declared.wish.Wish as wishes
use Rattle.import_wish.specs.declared.wish.WishItems as declared
use Rattle.import_wish.specs.Chroot.{Chroot, chroot_at, chroot_view}
use Rattle.import_wish.specs.Head.{Head, head_at, head_view}
use Rattle.import_wish.specs.Recipe.{Recipe, recipe_at, recipe_view}
use Rattle.import_wish.specs.Targets.{EveryBuild, every_at, every_view, is_every}
use Rattle.farm_model.specs.declared.types.Mode.{Mode}

pub record Items : Type 0 where
  pub recipes : List Recipe
  pub recipe_names : List (List ℕ)
  pub chroots : List Chroot
  pub chroot_names : List (List ℕ)
  pub every : Option EveryBuild

abbrev pub items_view : declared.WishItems → Items
items_view items = record {
  recipes = map recipe_view items.recipes.items;
  recipe_names = lists items.recipe_names.items;
  chroots = map chroot_view items.chroots.items;
  chroot_names = lists items.chroot_names.items;
  every = option_map every_view items.every;
}

pub record Wish : Type 0 where
  pub head : Head
  pub items : Items

abbrev pub wish_view : wishes.Wish → Wish
wish_view wish = record { head = head_view wish.head; items = items_view wish.items }

abbrev pub no_items : Items
no_items = record {
  recipes = [];
  recipe_names = [];
  chroots = [];
  chroot_names = [];
  every = None;
}

-- the mode and the profiles of each build that is chosen: those of a recipe `*`, or else, where there
-- are targets, those of all recipes
abbrev pub choice_under : Head → Option EveryBuild → Option (Mode × List ℕ)
choice_under head (Some every) = Some (every.mode, every.profiles)
choice_under head None =
    if is_some head.wanted.targets then Some (head.mode, head.profiles) else None

abbrev pub choice_of : Wish → Option (Mode × List ℕ)
choice_of wish = choice_under wish.head wish.items.every

-- ---- one paragraph behind others

abbrev pub more_recipes : Items → Recipe → Items
more_recipes s recipe = record s {
  recipes = s.recipes ++ recipe ∷ [];
  recipe_names = s.recipe_names ++ recipe.name ∷ [];
}

abbrev pub more_chroots : Items → Chroot → Items
more_chroots s chroot = record s {
  chroots = s.chroots ++ chroot ∷ [];
  chroot_names = s.chroot_names ++ chroot.name ∷ [];
}

unfoldable pub with_recipe : Head → Items → Paragraph → Result Items ℕ
with_recipe head s p = recipe_at head s.recipe_names p >>= λ recipe. Ok (more_recipes s recipe)

unfoldable pub with_chroot : Items → Paragraph → Result Items ℕ
with_chroot s p = chroot_at s.chroot_names p >>= λ chroot. Ok (more_chroots s chroot)

abbrev pub with_every_of : Items → EveryBuild → Items
with_every_of s every = record s { every = Some every }

unfoldable pub with_every : Head → Items → Paragraph → Result Items ℕ
with_every head s p =
    every_at head.mode head.profiles head.wanted.stages (is_some s.every) p
    >>= λ every. Ok (with_every_of s every)

-- a recipe has a field Recipe
abbrev pub with_item : Head → Items → Paragraph → Result Items ℕ
with_item head s p =
    if is_every p then with_every head s p
    else if is_some (value_of p (codes "Recipe")) then with_recipe head s p
    else with_chroot s p

abbrev pub step_at : Head → Items → Paragraph → Result Items Fault
step_at head s p = placed 0 p.line (with_item head s p)

-- ---- all paragraphs

abbrev pub first_at : Paragraph → Result Head Fault
first_at p = placed 0 p.line (head_at p)

abbrev pub items_from : Head → List Paragraph → Result Items Fault
items_from head ps = steps (step_at head) no_items (drop 1 ps)

-- a recipe `*` is for something: for targets, or for other recipes
abbrev pub alone_under : Bool → Option EveryBuild → Result (Unit {0}) Fault
alone_under true (Some every) = Err (fault_at 0 every.line ABSENT)
alone_under true None = Ok tt
alone_under false every = Ok tt

abbrev pub alone_at : Head → Items → Result (Unit {0}) Fault
alone_at head items =
    alone_under (is_nil items.recipes && is_none head.wanted.targets) items.every

unfoldable pub wish_at : List Paragraph → Result Wish Fault
wish_at ps =
    if is_nil ps then Err (fault_at 0 0 ABSENT)
    else (do
      head ← first_at (paragraph_at ps 0)
      items ← items_from head ps
      needed ← alone_at head items
      Ok (record { head = head; items = items }))
