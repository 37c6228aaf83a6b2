-- What every universe that was read keeps.
--
--   IsKept u
use Rattle.std.specs.Prelude.{◌≤◌, length, All}
use Rattle.std.specs.Str.{bytes_eq}
use Rattle.deb_text.specs.Groups.{AllDistinct}
use Rattle.farm_universe.specs.declared.limits.TheConstants.{MOST_NAMES, MOST_SIZE, MOST_RECIPES, MOST_BASES, MOST_CAPACITY}
use Rattle.farm_model.specs.Common.{IsUniverse, IsInOrder, Universe}

pub record IsKept (u : Universe) : Type 0 where
  -- what the laws of farms use;
  pub sound : IsUniverse u
  -- the variants of a name stand in version order, with no version twice, and base chroots are
  -- settled;
  pub in_order : IsInOrder u
  -- no name stands twice, and there are not too many;
  pub distinct : AllDistinct bytes_eq u.names
  pub few_names : length u.names ≤ MOST_NAMES
  -- sizes, capacities and scratch spaces are within their limits, in KiB, and there are not too
  -- many base chroots;
  pub small : All (All (λ v. v.size ≤ MOST_SIZE)) u.packages
  pub few_bases : length u.bases ≤ MOST_BASES
  pub limited : All (λ base. base.capacity ≤ MOST_CAPACITY) u.bases
  pub small_scratch : All (λ r. r.scratch ≤ MOST_SIZE) u.recipes
  -- a build costs no more than its limit, and there are not too many recipes.
  pub few_steps : All (λ r. r.steps ≤ MOST_SIZE) u.recipes
  pub few_recipes : length u.recipes ≤ MOST_RECIPES
