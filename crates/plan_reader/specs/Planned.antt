-- What the four texts stand for: the universe of the first three and the plan over it. The
-- project's own rules.
--
--   FarmPlan       a universe, and a plan over it
--   planned_of     those of four texts, or the first fault, packages before sources before the
--                  farm before the plan
use Rattle.std.specs.Prelude.{ℕ, List, Result, Ok}
use Rattle.deb_text.specs.Steps.{◌>>=◌}
use Rattle.deb_text.specs.declared.fault.Fault.{Fault}
use Rattle.farm_model.specs.Universe.{Universe}
use Rattle.farm_universe.specs.UniverseText.{universe_of}
use Rattle.plan_reader.specs.PlanText.{plan_of}
use Rattle.plan_model.specs.Plan.{Plan}

pub record FarmPlan : Type 0 where
  pub universe : Universe
  pub plan : Plan

unfoldable pub planned_of : (packages sources farm text : List ℕ) → Result FarmPlan Fault
planned_of packages sources farm text =
    universe_of packages sources farm >>= λ u. plan_of u text >>= λ p. Ok
    (record { universe = u; plan = p })
