-- Where a recipe is built that is not surely built at a place of a lane. The project's own rules.
-- Parameters: p a plan, l a lane, i a place of it, r a recipe, k the place of a build of it.
--
--   side_of, told_side           the side that is told, and that of a place
--   first_build, first_builder   the first build in a lane; of the first lane that has one
--   builder                      what is told of a recipe: where it is built
use Rattle.std.specs.Prelude.{ℕ, Bool, false, ◌==◌, nat_lt, length, fold, Option, None, option_map, unwrap_or, position, if◌then◌else◌}
use Rattle.std.specs.List.{range_with_len}
use Rattle.std.specs.Option.{option_or}
use Rattle.plan_model.specs.Plan.{Plan, lane}
use Rattle.plan_model.specs.declared.instructions.Instruction.{Instruction}
use Rattle.plan_model.specs.declared.instructions.Instruction.TheVariants.{Build}
use Rattle.plan_model.specs.Branches as branches
use Rattle.explain_reasons.specs.declared.builds.Builder.{Builder}
use Rattle.explain_reasons.specs.declared.builds.Side.{Side}

abbrev pub side_of : Side → branches.Side
side_of Side.Outside = branches.Outside
side_of (Side.First w) = branches.InFirst w
side_of (Side.Second w) = branches.InSecond w

abbrev pub told_side : branches.Side → Side
told_side branches.Outside = Side.Outside
told_side (branches.InFirst w) = Side.First w
told_side (branches.InSecond w) = Side.Second w

abbrev pub is_build : ℕ → Instruction → Bool
is_build r (Build built) = built == r
is_build r _ = false

-- the place of the first build in a lane
abbrev pub first_build : Plan → (l r : ℕ) → Option ℕ
first_build p l r = position (is_build r) (lane p l).instructions

-- that of the first lane that has one
abbrev pub first_builder : Plan → ℕ → Option Builder
first_builder p r =
    fold (λ found k. option_or found (option_map (Builder.Other k) (first_build p k r))) None
    (range_with_len 0 (length p))

-- ahead of the place, on which side; or further on
abbrev pub in_lane : Plan → (l i k : ℕ) → Builder
in_lane p l i k =
    if nat_lt k i then Builder.Branch (told_side (branches.side_at (lane p l).instructions k))
    else Builder.Later k

-- by the lane's first build, or else by the first lane's that has one
abbrev pub builder : Plan → (l i r : ℕ) → Builder
builder p l i r =
    unwrap_or (option_or (option_map (in_lane p l i) (first_build p l r)) (first_builder p r))
    Builder.Nobody
