-- The certificate of a plan by its greatest known rows. The project's own rules. Parameters: u a
-- universe, p a plan, known what its lanes know, c a certificate, l a lane, i a place.
--
--   IsNewAt              a row of what is known at a place, without the initial archive
--   row_behind           the row behind the instruction at a place
--   IsCertificateOf      the certificate by these rows and this order
--   AreNewRows           the rows of a lane behind its first i instructions
--   AreNewLanes          those of the lanes below n
use Rattle.std.specs.Prelude.{◌≡◌, ℕ, suc, ◌<◌, true, not, ◌&&◌, List, [], length, Some, slice_index_or, All}
use Rattle.cert_text.specs.Certificates.{Certificate, lane_rows, IsNewRow}
use Rattle.farm_model.specs.Common.{Universe, initial}
use Rattle.farm_model.specs.declared.types.Variant.{Variant}
use Rattle.plan_model.specs.Common.{Rows, IsGreatest, teaches, Plan, lane, instruction_at}
use Rattle.plan_model.specs.declared.instructions.Instruction.{Instruction}
use Rattle.plan_cert.specs.Stated.{rows_before, in_row}

-- the row has what is known at the place and is not in the initial archive, and nothing else
abbrev pub IsNewAt : Universe → Rows → ℕ → ℕ → List ℕ → Type 0
IsNewAt u known l i row = (v : Variant) → in_row row v ≡ (known l i v && not (initial u v))

-- the row that is listed behind the instruction at the place
abbrev pub row_behind : Plan → Certificate → ℕ → ℕ → List ℕ
row_behind p c l i = slice_index_or (lane_rows c l) (rows_before p l i) []

-- The certificate of a plan by what its lanes know and an order:
pub record IsCertificateOf (u : Universe) (p : Plan) (known : Rows) (lanes : List ℕ)
    (c : Certificate) : Type 0 where
  -- the lanes know all that they can;
  pub greatest : IsGreatest u p known
  -- the row behind each wait, publish and `when` is what is known there, without the initial
  -- archive;
  pub rows : (l i : ℕ) (x : Instruction) → l < length p → instruction_at p l i ≡ Some x
      → teaches x ≡ true → IsNewAt u known l (suc i) (row_behind p c l i)
  -- and the lanes are listed in this order.
  pub order : c.order ≡ lanes

-- one row behind each wait, publish and `when` of the first i instructions of a lane
pub record AreNewRows (u : Universe) (p : Plan) (known : Rows) (l i : ℕ) (rows : List (List ℕ))
    : Type 0 where
  pub counted : length rows ≡ rows_before p l i
  pub new : All (IsNewRow u) rows
  pub each : (k : ℕ) (x : Instruction) → k < i → instruction_at p l k ≡ Some x → teaches x ≡ true
      → IsNewAt u known l (suc k) (slice_index_or rows (rows_before p l k) [])

-- the rows of each lane below n
pub record AreNewLanes (u : Universe) (p : Plan) (known : Rows) (n : ℕ)
    (lanes : List (List (List ℕ))) : Type 0 where
  pub long : length lanes ≡ n
  pub each : (l : ℕ) → l < n → AreNewRows u p known l (length (lane p l).instructions)
      (slice_index_or lanes l [])
