-- What is said of the plans of the examples.
--
--   Verdict, verdict_of        the most that a lane costs, or its first unsafe instruction
--   trap_at                    the trap that a schedule stops at
--   Passes, Traps              a plan of one lane is safe and runs to its end; is not, and traps
use Rattle.std.specs.Prelude.{◌≡◌, ℕ, suc, List, [], ◌∷◌, length, replicate, Option, Some, None}
use Rattle.farm_model.specs.Universe.{Universe}
use Rattle.farm_model.specs.declared.types.Trap.{Trap}
use Rattle.plan_model.specs.Common.{Plan, lane, Stop, Ending, lane_state, result_of, Rows, initial_rows, lane_cost, risk_at}
use Rattle.plan_model.specs.declared.instructions.Instruction.{Instruction}

-- each instruction is safe, and the lane spends at most so much; or the first unsafe one, by its
-- number from 1, and the first trap that it may meet
pub data Verdict : Type 0 where
  Costs : (cost : ℕ) → Verdict
  Refused : (instruction : ℕ) (trap : Trap) → Verdict

abbrev pub unless_refused : ℕ → Option Trap → Verdict → Verdict
unless_refused i None later = later
unless_refused i (Some trap) later = Refused (suc i) trap

-- of the instructions from the place i on
abbrev pub verdict_from : (ℕ → Option Trap) → Verdict → ℕ → List Instruction → Verdict
verdict_from risk end i [] = end
verdict_from risk end i (x ∷ xs) = unless_refused i (risk i) (verdict_from risk end (suc i) xs)

abbrev pub verdict_of : Universe → Plan → Rows → ℕ → Verdict
verdict_of u p rows l =
    verdict_from (risk_at u p rows l) (Costs (lane_cost u p rows l)) 0 (lane p l).instructions

-- a schedule's event of this number traps, at the instruction of this number of the lane, both from
-- 1
abbrev pub trap_at : ℕ → ℕ → ℕ → Trap → Option Stop
trap_at step lane instruction trap =
    Some (record { step = step; lane = lane; instruction = instruction; trap = trap })

-- what a plan of one lane comes to, where the lane is given a turn for each of its instructions
abbrev pub run_alone : Universe → Plan → Ending
run_alone u p = result_of u p (replicate (length (lane p 0).instructions) 0)

-- A plan of one lane that waits for nothing is safe at this cost, and runs to its end, spending
-- that:
pub record Passes (u : Universe) (p : Plan) (cost : ℕ) : Type 0 where
  pub verdict : verdict_of u p (initial_rows u) 0 ≡ Costs cost
  pub stop : (run_alone u p).stop ≡ None
  pub done : (lane_state (run_alone u p).state 0).done ≡ length (lane p 0).instructions
  pub spent : (lane_state (run_alone u p).state 0).spent ≡ cost

-- Such a plan is refused at the instruction of this number, and traps there:
pub record Traps (u : Universe) (p : Plan) (instruction : ℕ) (trap : Trap) : Type 0 where
  pub verdict : verdict_of u p (initial_rows u) 0 ≡ Refused instruction trap
  pub stop : (run_alone u p).stop ≡ trap_at instruction 0 instruction trap
