-- The plan that lines come to at their end (the project's own rules).
--
--   finished ls current s    the plan of a draft, or UNCLOSED
--   IsWithinLimits p         the limits of a plan
use Rattle.std.specs.Prelude.{◌<◌, ◌≤◌, ◌^◌, List, length, All, Result, Ok, Err}
use Rattle.deb_text.specs.Answers.{fault_at}
use Rattle.deb_text.specs.declared.fault.Fault.{Fault}
use Rattle.plan_reader.specs.declared.error.TheConstants.{FILE, MOST_LANES, MOST_INSTRUCTIONS, UNCLOSED}
use Rattle.plan_reader.specs.Drafts.{Open, Nothing, InBlock, InLane, instructions_of}
use Rattle.plan_model.specs.Common.{Side, home, Lane, Plan}

-- what is left open is told at its first line: that of the open `when`, or else of the block or
-- lane
abbrev pub finished : List Lane → Open → Side → Result Plan Fault
finished ls Nothing s = Ok ls
finished ls (InBlock line block) s = Err (fault_at FILE (home s line) UNCLOSED)
finished ls (InLane line lane) s = Err (fault_at FILE (home s line) UNCLOSED)

-- the limits of a plan
pub record IsWithinLimits (p : Plan) : Type 0 where
  pub lanes : length p ≤ MOST_LANES
  pub instructions : length (instructions_of p) ≤ MOST_INSTRUCTIONS
  pub budgets : All (λ (l : Lane). l.budget < 10 ^ 15) p
