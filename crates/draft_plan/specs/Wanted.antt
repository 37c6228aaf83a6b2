-- What is wanted of a drafted plan, by a sketch or by a number of lanes. The project's own rules.
-- Parameters: u a universe, p a plan.
--
--   rest_of      the recipes that no lane is named for
--   by_sketch    the lanes of a plan, each with what it builds
--   by_number    lanes over the base chroots in turn, and all recipes in any of them
use Rattle.std.specs.Prelude.{ℕ, ◌+◌, ◌%◌, Bool, true, false, not, List, [], ◌++◌, length, map, codes, None, if◌then◌else◌}
use Rattle.std.specs.Fmt.{decimal}
use Rattle.std.specs.List.{filter, list_any, range_with_len}
use Rattle.draft_plan.specs.Wished.{WantedLane, Wanted, sketch}
use Rattle.farm_model.specs.Common.{member, Universe}
use Rattle.plan_model.specs.Plan.{Plan}

-- no lane is named for a recipe
abbrev pub is_free : List WantedLane → ℕ → Bool
is_free lanes r = not (list_any (λ w. member w.builds r) lanes)

-- of so many recipes those that no lane is named for
abbrev pub rest_of : ℕ → List WantedLane → List ℕ
rest_of count lanes = filter (is_free lanes) (range_with_len 0 count)

-- the lanes of a plan with their builds, and the others in any lane where that is asked for
abbrev pub by_sketch : Bool → Universe → Plan → Wanted
by_sketch rest u p = record {
  lanes = sketch [] p;
  free = if rest then rest_of (length u.recipes) (sketch [] p) else [];
}

-- the lane of a number, over so many base chroots in turn
abbrev pub numbered_lane : ℕ → ℕ → WantedLane
numbered_lane bases number = record {
  name = codes "lane" ++ decimal (number + 1);
  base = number % bases;
  budget = None;
  builds = [];
}

-- so many lanes, and all recipes in any of them
abbrev pub by_number : Universe → ℕ → Wanted
by_number u count = record {
  lanes = map (numbered_lane (length u.bases)) (range_with_len 0 count);
  free = range_with_len 0 (length u.recipes);
}
