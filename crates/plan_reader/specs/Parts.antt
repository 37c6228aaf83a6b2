-- Lines of a plan that are read in parts, each by itself. Only the contracts of private functions
-- cite this file. Parameters: u a universe, ls the lines from some place on.
--
--   Says u line r       r is what the line says by itself, or its own fault
--   AreSaidByLines u ls rs  these are what the first lines say, line by line
--   IsPartSaid u n ls p  a part has what the first n lines say, unless memory ran out
--   ArePartsSaid u n ls ps  the parts have what the lines say, part by part, as far as they go
--   behind_head ls      the lines behind the first one, which is `plan 1`
use Rattle.std.specs.Prelude.{◌≡◌, ℕ, List, [], ◌∷◌, length, drop, Result, Ok, Err, IfOk, codes, if◌then◌else◌}
use Rattle.std.specs.declared.alloc.AllocError.{AllocError}
use Rattle.deb_text.specs.Common.{Gives, fault_at, Line, is_head}
use Rattle.deb_text.specs.declared.fault.Fault.{Fault}
use Rattle.farm_model.specs.Universe.{Universe}
use Rattle.plan_reader.specs.declared.error.LineError.{LineError}
use Rattle.plan_reader.specs.declared.error.TheConstants.{FILE, NO_PLAN}
use Rattle.plan_reader.specs.declared.said.Said.{Said}
use Rattle.plan_reader.specs.LineErrors.{refusal_of_line}
use Rattle.plan_reader.specs.Said.{said_at}
use Rattle.plan_reader.specs.View.{said_of}

-- what a line says by itself, or its own fault
abbrev pub Says : Universe → Line → Result Said LineError → Type 0
Says u line r = Gives refusal_of_line said_of r (said_at u line.1)

-- what the first lines say, line by line
abbrev pub AreSaidByLines : Universe → List Line → List (Result Said LineError) → Type 0
AreSaidByLines u ls [] = Unit {0}
AreSaidByLines u [] (r ∷ rs) = ⊥
AreSaidByLines u (line ∷ ls) (r ∷ rs) = Says u line r × AreSaidByLines u ls rs

-- a part has what the first n lines say, unless memory ran out
abbrev pub IsPartSaid : Universe → ℕ → List Line → Result (List (Result Said LineError)) AllocError
    → Type 0
IsPartSaid u n ls part = IfOk part (λ rs. (length rs ≡ n) × AreSaidByLines u ls rs)

-- the parts have what the lines say, n lines each, as far as they go
abbrev pub ArePartsSaid : Universe → ℕ → List Line
    → List (Result (List (Result Said LineError)) AllocError) → Type 0
ArePartsSaid u n ls [] = Unit {0}
ArePartsSaid u n ls (part ∷ parts) = IsPartSaid u n ls part × ArePartsSaid u n (drop n ls) parts

-- the lines behind the first one, which is `plan 1`
abbrev pub behind_head : List Line → Result (List Line) Fault
behind_head [] = Err (fault_at FILE 0 NO_PLAN)
behind_head ((number, line) ∷ ls) =
    if is_head (codes "plan") line then Ok ls else Err (fault_at FILE number NO_PLAN)
