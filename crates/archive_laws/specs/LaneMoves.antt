-- How a lane moves on at an archive step: by the word of one name that it loads, and by its next
-- output. The project's own rules. Parameters: u a universe, of a lane, st where it is at an
-- archive step, old where it was after its last one, n the number of a name.
--
--   outputs_made, IsOutputOf      how many outputs a lane has made, and which instruction has which
--   seen, moved_by                what a word says of the archive; where a load of it leaves a lane
--   output_of, behind_output      the output that a lane makes next; the lane behind it
use Rattle.std.specs.Prelude.{ℕ, ◌<◌, ◌≤◌, Bool, ◌&&◌, ◌==◌, if◌then◌else◌, length, Option, None, Some, slice_get}
use Rattle.farm_model.specs.Common.{Universe, outputs, word_has}
use Rattle.farm_model.specs.declared.types.Variant.{Variant}
use Rattle.plan_model.specs.Common.{Lane, next_place, outputs_before, publish_cost, LaneState, turn_of, given, first_only, goes_on}
use Rattle.plan_model.specs.declared.instructions.Instruction.{Instruction}
use Rattle.plan_model.specs.declared.instructions.Instruction.TheVariants.{Unpack, Publish, Wait, When}

-- how many outputs the lane has made
abbrev pub outputs_made : Universe → Lane → LaneState → ℕ
outputs_made u of st = outputs_before u of st.done st.made

-- output j of the lane is one of its instruction at place i
abbrev pub IsOutputOf : Universe → Lane → ℕ → ℕ → Type 0
IsOutputOf u of i j =
    (outputs_before u of i 0 ≤ j) × (j < outputs_before u of (next_place of i) 0)

-- the archive, as far as one name's word tells of it
abbrev pub seen : ℕ → ℕ → Variant → Bool
seen n found v = (v.name == n) && word_has found v.bit

-- the lane after a load of a name's word: behind an unpack of that name, in the branch that a
-- `when` of that name takes, or behind a wait that the word satisfies; else where it was
abbrev pub moved_by : Universe → Lane → ℕ → ℕ → LaneState → LaneState → Option Instruction
    → LaneState
moved_by u of n found old st (Some (Unpack name wanted)) =
    if name == n
    then goes_on old (turn_of u (seen n found) of st (Some (Unpack name wanted))) (λ next. next)
    else old
moved_by u of n found old st (Some (When name wanted)) =
    if name == n
    then goes_on old (turn_of u (seen n found) of st (Some (When name wanted))) (λ next. next)
    else old
moved_by u of n found old st (Some (Wait e)) =
    goes_on old (turn_of u (seen n found) of st (Some (Wait e))) (λ next. next)
moved_by u of n found old st _ = old

-- the output that comes next, where the instruction is a publish
abbrev pub output_of : Universe → ℕ → Option Instruction → Option Variant
output_of u made (Some (Publish r)) = slice_get (outputs u r) made
output_of u made _ = None

-- the lane behind one more output
abbrev pub behind_output : Universe → Lane → LaneState → Option Instruction → LaneState
behind_output u of st (Some (Publish r)) =
    given of (length (outputs u r)) st (first_only st.made (publish_cost u r))
behind_output u of st _ = st
