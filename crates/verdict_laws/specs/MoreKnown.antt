-- What is safe under fewer known variants is safe under more. The project's own rules.
use Rattle.plan_model.specs.Common.{Plan, Rows, KeepsRows, IsGreatest, IsSafeUnder, IsAnnotation, IsSound}
use Rattle.farm_model.specs.Universe.{Universe}
use Rattle.verdict_laws.specs.Families.{IsWithin}
use Rattle.verdict_laws.specs.Greatest.{greatest_rows}

-- a plan that is safe under some rows is safe under more, where those keep to the inclusions
abbrev pub SafeUnderMore : Type 0
SafeUnderMore =
    (u : Universe) (p : Plan) (rows more : Rows) → KeepsRows u p more → IsWithin p rows more
    → IsSafeUnder u p rows → IsSafeUnder u p more

-- where there is an annotation, the greatest rows are one: so a plan is refused at its first
-- instruction that is unsafe under the greatest rows, just where it has no annotation
abbrev pub GreatestIsAnnotation : Type 0
GreatestIsAnnotation =
    (u : Universe) (p : Plan) (rows greatest : Rows) → IsAnnotation u p rows
    → IsGreatest u p greatest → IsAnnotation u p greatest

-- the same, of the rows that are computed
abbrev pub GreatestRowsAnnotate : Type 0
GreatestRowsAnnotate =
    (u : Universe) (p : Plan) (rows : Rows) → IsSound u p → IsAnnotation u p rows
    → IsAnnotation u p (greatest_rows u p)
