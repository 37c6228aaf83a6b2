-- What leads from a world that is reached to another: a load of any name's word, the next output of
-- a lane, and the local instructions of all lanes. The project's own rules. Parameters: u a
-- universe, p a plan, w a world, l a lane, v a variant.
--
--   LoadReaches, LoadsReach          where a load leaves a lane
--   OutputReaches, OutputsReach      where an output leaves it
--   AreReady, AllLanesReady          the world with the first lanes at their next archive steps
--   EndsAreFinished                  where each lane is at its end, the state shown is finished
use Rattle.std.specs.Prelude.{◌≡◌, ℕ, suc, ◌<◌, ◌≤◌, true, length, Option, Some, slice_get, slice_index, slice_set}
use Rattle.farm_model.specs.Common.{Universe, IsKnown}
use Rattle.farm_model.specs.declared.types.Variant.{Variant}
use Rattle.plan_model.specs.Common.{Rows, Plan, lane, instruction_at, lane_outputs, State, is_finished, IsAnnotation, IsSound, LaneState, World, Shows, world_lane, with_bit}
use Rattle.plan_model.specs.declared.instructions.Instruction.{Instruction}
use Rattle.archive_laws.specs.LaneMoves.{outputs_made, IsOutputOf, moved_by, output_of, behind_output}
use Rattle.archive_laws.specs.Shown.{IsReached, with_lane, ready_lane}

-- the instruction that lane l is ready for in the world, none at its end
abbrev pub ready_instruction : Universe → Plan → World → ℕ → Option Instruction
ready_instruction u p w l = instruction_at p l (ready_lane u p w l).done

-- Where a load has left a lane:
pub record LoadReaches (u : Universe) (p : Plan) (w : World) (l : ℕ) (after : LaneState)
    : Type 0 where
  -- the world with the lane there is reached;
  pub reached : IsReached u p (with_lane w l after)
  -- and the lane has made as many outputs as before.
  pub made : outputs_made u (lane p l) after ≡ outputs_made u (lane p l) (world_lane w l)

-- from a world that is reached, a load of any name's word leads to one
abbrev pub LoadsReach : Type 0
LoadsReach =
    (u : Universe) (p : Plan) → IsSound u p → (w : World) → IsReached u p w → (l n : ℕ)
    → l < length p → LoadReaches u p w l (moved_by u (lane p l) n (slice_index w.words n)
    (world_lane w l) (ready_lane u p w l) (ready_instruction u p w l))

-- the world with one more output, of a lane that it leaves there
abbrev pub with_output : World → ℕ → Variant → LaneState → World
with_output w l v next =
    record { words = with_bit w.words v; lanes = slice_set w.lanes l next }

-- Where an output has left a lane:
pub record OutputReaches (u : Universe) (p : Plan) (w : World) (l : ℕ) (v : Variant)
    (next : LaneState) : Type 0 where
  -- the world with the output and the lane there is reached;
  pub reached : IsReached u p (with_output w l v next)
  -- the lane has made one output more,
  pub made : outputs_made u (lane p l) next ≡ suc (outputs_made u (lane p l) (world_lane w l))
  -- which is the next one of all that it makes, of the instruction that it was ready for;
  pub output : slice_get (lane_outputs u (lane p l)) (outputs_made u (lane p l) (world_lane w l))
      ≡ Some v
  pub there : IsOutputOf u (lane p l) (ready_lane u p w l).done
      (outputs_made u (lane p l) (world_lane w l))
  -- and a variant of the universe.
  pub known : IsKnown u v

-- from a world that is reached, the next output of a lane of an annotated plan leads to one
abbrev pub OutputsReach : Type 0
OutputsReach =
    (u : Universe) (p : Plan) (rows : Rows) → IsSound u p → IsAnnotation u p rows → (w : World)
    → IsReached u p w → (l : ℕ) (v : Variant) → l < length p
    → output_of u (ready_lane u p w l).made (ready_instruction u p w l) ≡ Some v
    → OutputReaches u p w l v
    (behind_output u (lane p l) (ready_lane u p w l) (ready_instruction u p w l))

-- A world in which the first n lanes are at their next archive steps, seen from w:
pub record AreReady (u : Universe) (p : Plan) (w : World) (n : ℕ) : Type 0 where
  pub world : World
  -- it is reached, with the same words;
  pub reached : IsReached u p world
  pub words : world.words ≡ w.words
  -- the first n lanes are where they are ready, the others where they were.
  pub here : (l : ℕ) → l < n → world_lane world l ≡ ready_lane u p w l
  pub others : (l : ℕ) → n ≤ l → world_lane world l ≡ world_lane w l

-- from a world that is reached, all lanes' local instructions lead to one
abbrev pub AllLanesReady : Type 0
AllLanesReady =
    (u : Universe) (p : Plan) → IsSound u p → (w : World) → IsReached u p w
    → AreReady u p w (length p)

-- where each lane is at its end, the state shown is finished
abbrev pub EndsAreFinished : Type 0
EndsAreFinished =
    (u : Universe) (p : Plan) (w : World) (s : State) → Shows u w s
    → ((l : ℕ) → l < length p → length (lane p l).instructions ≤ (world_lane w l).done)
    → is_finished p s ≡ true
