-- What a lane costs at most, by the costs of its instructions. The project's own rules. Parameters:
-- u a universe, p a plan, rows what its lanes know, l a lane, i a place of it.
--
--   cost_of, has_cost   what an instruction adds to the cost, and whether that is known at a place
--   spent_of, spent_at  what is spent, by the maps of a place, and there
--   lane_needs          what the lane needs at most, where that is told
use Rattle.std.specs.Prelude.{ℕ, ◌-◌, ◌^◌, nat_lt, min, Bool, true, ◌&&◌, is_some, length, Option, Some, None, option_map, if◌then◌else◌}
use Rattle.farm_model.specs.Common.{every_below, recipe, Universe}
use Rattle.farm_model.specs.declared.types.Variant.{Variant}
use Rattle.plan_model.specs.Common.{Rows, possible, Maps, maps_at, lane_cost, Plan, lane, instruction_at, set_cost, build_cost, publish_cost, candidates, greatest_cost, newest}
use Rattle.plan_model.specs.declared.instructions.Instruction.{Instruction}
use Rattle.plan_model.specs.declared.instructions.Instruction.TheVariants.{Unpack, Configure, Deconfigure, Remove, Build, Publish}
use Rattle.explain_reasons.specs.declared.cost.Spent.{Spent}

-- none of an unpack that wants no variant that is known
abbrev pub cost_of : Universe → (known there : Variant → Bool) → Instruction → Option ℕ
cost_of u known there (Unpack name wanted) =
    option_map (λ highest. greatest_cost u name (candidates u there name wanted highest))
    (newest u known name wanted)
cost_of u known there (Configure members) = Some (set_cost members)
cost_of u known there (Deconfigure members) = Some (set_cost members)
cost_of u known there (Remove members) = Some (set_cost members)
cost_of u known there (Build r) = Some (build_cost (recipe u r))
cost_of u known there (Publish r) = Some (publish_cost u r)
cost_of u known there _ = Some 0

-- of the instruction that is there, if any
abbrev pub is_known : Universe → Plan → Rows → (l i : ℕ) → Option Instruction → Bool
is_known u p rows l i None = true
is_known u p rows l i (Some x) = is_some (cost_of u (rows l i) (possible u p l i) x)

abbrev pub has_cost : Universe → Plan → Rows → (l i : ℕ) → Bool
has_cost u p rows l i = is_known u p rows l i (instruction_at p l i)

-- no more than a `u64` holds
abbrev pub at_most : ℕ → ℕ
at_most cost = min cost (2 ^ 64 - 1)

abbrev pub spent_of : Maps → Spent
spent_of m = record {
  here = at_most m.here.cost;
  ahead = at_most m.ahead.cost;
  first = at_most m.first.cost;
}

abbrev pub spent_at : Universe → Plan → Rows → (l i : ℕ) → Spent
spent_at u p rows l i = spent_of (maps_at u p rows l i)

-- a cost is told where each that it is the sum of is known, and it is less than the greatest `u64`
abbrev pub told_cost : Bool → ℕ → Option ℕ
told_cost known cost = if known && nat_lt cost (2 ^ 64 - 1) then Some cost else None

abbrev pub lane_needs : Universe → Plan → Rows → ℕ → Option ℕ
lane_needs u p rows l =
    told_cost (every_below (length (lane p l).instructions) (has_cost u p rows l))
    (lane_cost u p rows l)
