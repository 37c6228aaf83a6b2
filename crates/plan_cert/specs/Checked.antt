-- What the check of the rows of a plan comes to. The project's own words. Parameters: u a universe,
-- p a plan, rows what its lanes know, l a lane.
use Rattle.std.specs.Prelude.{◌≡◌, ℕ, suc, ◌<◌, Result, Ok, Err}
use Rattle.cert_text.specs.declared.fault.CertFault.{CertFault}
use Rattle.cert_text.specs.declared.fault.CertFault.TheVariants.{Text, Row, Unsafe, Uneven, Order, Memory}
use Rattle.farm_model.specs.Universe.{Universe}
use Rattle.plan_model.specs.Common.{Rows, KeepsRows, Plan, Meets, Parts, IsSafeUnder}
use Rattle.plan_verifier.specs.Costs.{IsFirstTold}
use Rattle.verdict_laws.specs.Places.{IsJustified, IsFirstUnjustified}

-- the first row behind an instruction of the lane that is not justified
pub record IsLaneFault (u : Universe) (p : Plan) (rows : Rows) (l told number : ℕ) : Type 0 where
  pub of_lane : told ≡ l
  pub place : ℕ
  pub numbered : number ≡ suc place
  pub here : ¬ IsJustified u p rows l (suc place)
  pub before : (k : ℕ) → k < place → IsJustified u p rows l (suc k)

-- each row behind an instruction of the lane is justified, or this one is the first that is not
abbrev pub IsLaneChecked : Universe → Plan → Rows → ℕ → Result Unit CertFault → Type 0
IsLaneChecked u p rows l (Ok done) = (k : ℕ) → IsJustified u p rows l (suc k)
IsLaneChecked u p rows l (Err (Row told number)) = IsLaneFault u p rows l told number
IsLaneChecked u p rows l (Err Memory) = Unit {0}
IsLaneChecked u p rows l (Err (Text line)) = ⊥
IsLaneChecked u p rows l (Err (Unsafe told number trap)) = ⊥
IsLaneChecked u p rows l (Err (Uneven told number)) = ⊥
IsLaneChecked u p rows l (Err (Order item)) = ⊥

-- the rows keep to the inclusions, or this is the first that is not justified
abbrev pub AreChecked : Universe → Plan → Rows → Result Unit CertFault → Type 0
AreChecked u p rows (Ok done) = KeepsRows u p rows
AreChecked u p rows (Err (Row l number)) = IsFirstUnjustified u p rows l number
AreChecked u p rows (Err Memory) = Unit {0}
AreChecked u p rows (Err (Text line)) = ⊥
AreChecked u p rows (Err (Unsafe l number trap)) = ⊥
AreChecked u p rows (Err (Uneven l number)) = ⊥
AreChecked u p rows (Err (Order item)) = ⊥

-- each instruction is safe under the rows; or the first hazard is told, by the lane's number
abbrev pub AreSafe : Universe → Plan → Rows → Result Unit CertFault → Type 0
AreSafe u p rows (Ok done) = IsSafeUnder u p rows
AreSafe u p rows (Err (Unsafe l number trap)) = IsFirstTold u p rows l (Meets trap) number
AreSafe u p rows (Err (Uneven l number)) = IsFirstTold u p rows l Parts number
AreSafe u p rows (Err Memory) = Unit {0}
AreSafe u p rows (Err (Text line)) = ⊥
AreSafe u p rows (Err (Row l number)) = ⊥
AreSafe u p rows (Err (Order item)) = ⊥
