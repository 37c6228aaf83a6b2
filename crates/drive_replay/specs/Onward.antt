-- How the core goes on along a journal. Parameters: f a farm at work, l the number of a lane, n the
-- number of an instruction, counted from 1.
--
--   here f l              the instruction that the lane stands at
--   moved f l             the farm behind a turn of the lane, if that moves it
--   turned k f l          the farm behind so many of its turns
--   stood f l n           the farm where the lane stands at the instruction, behind its waits alone
use Rattle.std.specs.Prelude.{ℕ, zero, suc, Bool, true, false, ◌==◌, Option, Some, None, if◌then◌else◌}
use Rattle.std.specs.Option.{option_and_then}
use Rattle.farm_core.specs.Farm.{Farm, with_state}
use Rattle.plan_model.specs.Common.{instruction_at, Outcome, Moved, lane_state, step}
use Rattle.plan_model.specs.declared.instructions.Instruction.{Instruction}
use Rattle.plan_model.specs.declared.instructions.Instruction.TheVariants.{Wait}

abbrev pub done_in : Farm → ℕ → ℕ
done_in f l = (lane_state f.state l).done

abbrev pub here : Farm → ℕ → Option Instruction
here f l = instruction_at f.plan.lanes l (done_in f l)

-- where a turn moves the lane, the farm behind it
abbrev pub moved_by : Farm → Outcome → Option Farm
moved_by f (Moved s) = Some (with_state f s)
moved_by f _ = None

unfoldable pub moved : Farm → ℕ → Option Farm
moved f l = moved_by f (step f.universe f.plan.lanes f.state l)

abbrev pub turned : ℕ → Farm → ℕ → Option Farm
turned zero f l = Some f
turned (suc k) f l = option_and_then (λ g. turned k g l) (moved f l)

abbrev pub is_wait : Option Instruction → Bool
is_wait (Some (Wait e)) = true
is_wait _ = false

-- behind a wait, if the lane stands at one that lets it pass
abbrev pub waited : Farm → ℕ → Option Farm
waited f l = if is_wait (here f l) then moved f l else None

-- where the lane stands behind so many instructions, and no more waits than this are ahead of that
abbrev pub led : ℕ → Farm → ℕ → ℕ → Option Farm
led zero f l place = if done_in f l == place then Some f else None
led (suc most) f l place =
    if done_in f l == place then Some f
    else option_and_then (λ g. led most g l place) (waited f l)

abbrev pub stood : Farm → ℕ → ℕ → Option Farm
stood f l zero = None
stood f l (suc place) = led place f l place
