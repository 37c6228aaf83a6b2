-- The verdict as it is printed. The project's own format.
--
--   accepted_text, refusal_text     the lines of an acceptance and of a refusal
--   verdict_text                    the lines of a verdict
use Rattle.std.specs.Prelude.{ℕ, List, [], ◌∷◌, length, codes, Result, Ok, Err}
use Rattle.std.specs.List.{concat, flat_map, range_with_len}
use Rattle.deb_text.specs.Lists.{lists}
use Rattle.plan_reader.specs.Files.{file_name}
use Rattle.farm_model.specs.TrapText.{trap_text}
use Rattle.plan_model.specs.Common.{lane_cost, lane, count}
use Rattle.plan_verifier.specs.Accepted.{AcceptedPlan, known_rows}
use Rattle.plan_verifier.specs.declared.refusal.TheConstants.{UNSAFE, UNEVEN}
use Rattle.plan_verifier.specs.declared.refusal.Refusal.{Refusal}
use Rattle.plan_verifier.specs.declared.refusal.Refusal.TheVariants.{Text, Unsafe, Uneven, Stuck, Memory}
use Rattle.farm_report.specs.AnswerLines.{counted_line, lane_cost_line, fault_line, row_line, unsafe_line, stuck_line, memory_line}

-- the line of a lane, with its cost and its budget
abbrev pub cost_line : AcceptedPlan → ℕ → List ℕ
cost_line a l = lane_cost_line (lane a.plan l).name (lane_cost a.universe a.plan (known_rows a) l)
    (lane a.plan l).budget

-- an acceptance: how many lanes and events there are, and the lanes in file order
abbrev pub accepted_text : AcceptedPlan → List ℕ
accepted_text a =
    concat (codes "accepted\n" ∷ counted_line (codes "lanes") (length a.plan)
    ∷ counted_line (codes "count") (count a.universe a.plan)
    ∷ flat_map (cost_line a) (range_with_len 0 (length a.plan)) ∷ [])

-- the one line of a refusal
abbrev pub refusal_text : Refusal → List ℕ
refusal_text (Text fault) = fault_line fault.code (file_name fault.file) fault.line
refusal_text (Unsafe name number trap) = unsafe_line UNSAFE name.items number (trap_text trap)
refusal_text (Uneven name number) = row_line UNEVEN name.items number
refusal_text (Stuck names) = stuck_line (lists names.items)
refusal_text Memory = memory_line

-- the lines of either
abbrev pub verdict_text : Result AcceptedPlan Refusal → List ℕ
verdict_text (Ok a) = accepted_text a
verdict_text (Err refusal) = refusal_text refusal
