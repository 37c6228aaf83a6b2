-- What the walks over the lanes of a plan go by.
--
--   IsStage            its parts belong together
--   IsWhole k stage    those of a stage do, k being what its known words show
--   OfStage k stage F  F of a stage's universe, plan and known rows
use Rattle.std.specs.Prelude.{◌≡◌}
use Rattle.farm_model.specs.Universe.{Universe}
use Rattle.plan_model.specs.Common.{KeepsRows, Rows, Plan, IsSound}
use Rattle.plan_verifier.specs.declared.stage.Stage.{Stage}
use Rattle.known_rows.specs.KnownRows.{Knowledge}
use Rattle.known_rows.specs.Outputs.{PlanOutputs}

-- A sound plan over a universe; the tables are of that universe, the outputs and what is known are
-- of both, and the rows of what is known keep to the inclusions:
pub record IsStage (u : Universe) (p : Plan) (tables : Universe) (outputs : PlanOutputs)
    (known : Knowledge) : Type 0 where
  pub sound : IsSound u p
  pub tables_are : tables ≡ u
  pub outputs_are : (outputs.universe ≡ u) × (outputs.plan ≡ p)
  pub of_universe : known.universe ≡ u
  pub of_plan : known.plan ≡ p
  pub keeps : KeepsRows u p known.rows

abbrev pub IsWhole : {K : Type 0} → (K → Knowledge) → Stage K → Type 0
IsWhole known stage =
    IsStage stage.universe.now stage.plan.now.lanes stage.tables.now stage.outputs.now
    (known stage.known.now)

abbrev pub stage_rows : {K : Type 0} → (K → Knowledge) → Stage K → Rows
stage_rows known stage = (known stage.known.now).rows

-- what is said of a universe, a plan and known rows, said of those of a stage
abbrev pub OfStage : {K : Type 0} → {A : Type 1} → (K → Knowledge) → Stage K
    → (Universe → Plan → Rows → A) → A
OfStage known stage f = f stage.universe.now stage.plan.now.lanes (stage_rows known stage)

-- the same of a value
abbrev pub of_stage : {K : Type 0} → {A : Type 0} → (K → Knowledge) → Stage K
    → (Universe → Plan → Rows → A) → A
of_stage known stage f = f stage.universe.now stage.plan.now.lanes (stage_rows known stage)
