-- A lane of the core, and the lane's state that it shows.
--
--   shown        the state
--   gone_to      the lane at another place
--   passed       the lane behind its instruction
--   given_one    the lane behind one more of so many outputs
--   IsRun        what each turn of a lane keeps
use Rattle.std.specs.Prelude.{◌≡◌, ℕ, suc, ◌+◌, nat_lt, length, if◌then◌else◌}
use Rattle.farm_model.specs.Universe.{Universe}
use Rattle.plan_model.specs.Common.{Lane, next_place, LaneState}
use Rattle.chroot_state.specs.Held.{IsHeld}
use Rattle.farm_core.specs.declared.lane.LaneRun.{LaneRun}

abbrev pub shown : LaneRun → LaneState
shown r = record {
  done = r.done;
  made = r.made;
  chroot = r.chroot.slots;
  spent = r.spent;
  built = r.built.items;
}

-- at another place
abbrev pub gone_to : LaneRun → ℕ → LaneRun
gone_to r place = record r { done = place; made = 0 }

-- behind the instruction, at this cost
abbrev pub passed : Lane → LaneRun → ℕ → LaneRun
passed of r cost = record r { done = next_place of r.done; made = 0; spent = r.spent + cost }

-- behind one more of so many outputs: the last one ends the publish
abbrev pub given_one : Lane → ℕ → LaneRun → ℕ → LaneRun
given_one of count r cost =
    if nat_lt (suc r.made) count
    then record r { made = suc r.made; spent = r.spent + cost }
    else passed of r cost

-- a lane of this universe, in a chroot made of its base chroot, with a mark for each recipe
pub record IsRun (u : Universe) (of : Lane) (r : LaneRun) : Type 0 where
  pub chroot : IsHeld u r.chroot
  pub base : r.chroot.base ≡ of.base
  pub built : length r.built.items ≡ length u.recipes
