use Rattle.std.proofs.Common.{◌≡◌, ◌||◌, drop}
use Rattle.std.specs.List.{list_all}
use Rattle.farm_model.specs.Chroot.{member}
use Rattle.draft_plan.proofs.lists.are_in_either.Given as goal

abbrev pub invariant-loop-recipe : goal.invariant-loop-recipe
invariant-loop-recipe l =
    list_all (λ r. member l.one r || member l.other r) (drop l.recipe-index l.recipes)
    ≡ list_all (λ r. member l.one r || member l.other r) l.recipes
