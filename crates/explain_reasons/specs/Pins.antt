-- Which variants an unpack wants, and whether a lane is safe where one of its unpacks is pinned to a
-- variant. Parameters: u a universe, p a plan, rows what its lanes know, l a lane, i a place of it.
--
--   IsWantedWord     a word has those in the relation of an unpack; none of any other instruction
--   pinned_unpack    the unpack of just one variant
--   pinned           the plan with that in place of the instruction at a pin's place
--   OfPinned         what is said of a plan, said of the pinned one, under the same rows
--   IsPinned         the unpack of a pin stands in place of one
--   IsTried          what is told of an instruction
--   IsPinSafe        the lane is safe in the pinned plan up to a place
use Rattle.std.specs.Prelude.{◌≡◌, ◌≢◌, ◌<◌, ◌≤◌, ℕ, suc, Bool, true, false, length, Option, Some, None, slice_set}
use Rattle.deb_relation.specs.declared.operator.Op.{Op}
use Rattle.farm_model.specs.Common.{Universe, names, is_wanted, package_of}
use Rattle.farm_model.specs.declared.types.Variant.{Variant}
use Rattle.plan_model.specs.Common.{Rows, Plan, lane, instruction_at, hazard_at}
use Rattle.plan_model.specs.declared.instructions.Instruction.{Instruction}
use Rattle.plan_model.specs.declared.instructions.Instruction.TheVariants.{Unpack}
use Rattle.plan_verifier.specs.Branch.{IsAt}
use Rattle.plan_verifier.specs.declared.branch.LaneMay.{LaneMay}
use Rattle.sat_rows.specs.Rows.{IsWordFor}
use Rattle.explain_reasons.specs.declared.pins.Pin.{Pin}

abbrev pub IsWantedWord : Universe → Option Instruction → ℕ → Type 0
IsWantedWord u (Some (Unpack name wanted)) word = IsWordFor u (is_wanted u wanted) name word
IsWantedWord u _ word = word ≡ 0

-- by its very version
abbrev pub pinned_unpack : Universe → Variant → Instruction
pinned_unpack u v = Unpack v.name (Some (Op.Equal, (package_of u v).version))

abbrev pub is_unpack : Option Instruction → Bool
is_unpack (Some (Unpack name wanted)) = true
is_unpack _ = false

unfoldable pub pinned : Universe → Plan → ℕ → Pin → Plan
pinned u p l pin = slice_set p l (record (lane p l) {
  instructions = slice_set (lane p l).instructions pin.place (pinned_unpack u pin.variant);
})

abbrev pub OfPinned : {A : Type 1} → Pin → (Universe → Plan → Rows → ℕ → A) → Universe → Plan
    → Rows → ℕ → A
OfPinned pin f u p rows l = f u (pinned u p l pin) rows l

-- this is the unpack of the pin's variant, and stands in place of one
pub record IsPinned (u : Universe) (p : Plan) (l : ℕ) (pin : Pin) (x : Instruction) : Type 0 where
  pub lane : l < length p
  pub unpacks : is_unpack (instruction_at p l pin.place) ≡ true
  pub named : pin.variant.name < names u
  pub is : x ≡ pinned_unpack u pin.variant

-- the instruction is safe, and this may be held behind it; or it is not
abbrev pub IsTried : Universe → Plan → Rows → (l i : ℕ) → LaneMay → Bool → Type 0
IsTried u p rows l i next true = (hazard_at u p rows l i ≡ None) × IsAt u p rows l (suc i) next
IsTried u p rows l i next false = hazard_at u p rows l i ≢ None

-- by the verdict's rules each instruction up to and with that at a place is safe
pub record IsPinSafe (u : Universe) (p : Plan) (rows : Rows) (l : ℕ) (pin : Pin)
    (place : ℕ) : Type 0 where
  pub unpacks : is_unpack (instruction_at p l pin.place) ≡ true
  pub safe : (i : ℕ) → i ≤ place → hazard_at u (pinned u p l pin) rows l i ≡ None
