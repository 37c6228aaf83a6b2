-- The entries of the waits of a plan by number, and the sources of each. The project's own words.
-- Parameters: u a universe, p a plan, es the entries, marks the points of the plan, numbers for
-- each of them one, all for each of the entries its sources.
--
--   IsNumber, AreMarkNumbers  the entry of a wait has this number
--   AreAllSources             the sources of each entry
--   IsFoundFor, AreFoundFor   the sources of the entry of a wait stand under this number
use Rattle.std.specs.Prelude.{◌≡◌, ℕ, ◌<◌, List, [], length, Some, slice_get, slice_index, slice_index_or}
use Rattle.deb_relation.specs.Relations.{Entry}
use Rattle.farm_model.specs.Universe.{Universe}
use Rattle.plan_model.specs.Plan.{Plan, instruction_at}
use Rattle.plan_model.specs.declared.instructions.Instruction.TheVariants.{Wait}
use Rattle.known_rows.specs.declared.column.Source.{Source}
use Rattle.known_rows.specs.declared.marks.Mark.{Mark}
use Rattle.known_rows.specs.Entries.{AreFor}
use Rattle.known_rows.specs.Hits.{AreEntrySources}

abbrev pub IsNumber : Plan → List Entry → Mark → ℕ → Type 0
IsNumber p es mark n =
    (e : Entry) → instruction_at p mark.lane mark.place ≡ Some (Wait e) → slice_get es n ≡ Some e

-- those of the marks below k
pub record AreMarkNumbers (p : Plan) (es : List Entry) (marks : List Mark) (numbers : List ℕ)
    (k : ℕ)
    : Type 0 where
  pub long : length numbers ≡ k
  pub each : (w : ℕ) (mark : Mark) → w < k → slice_get marks w ≡ Some mark
      → IsNumber p es mark (slice_index numbers w)

pub record AreAllSources (u : Universe) (p : Plan) (es : List Entry) (all : List (List Source))
    : Type 0 where
  pub long : length all ≡ length es
  pub each : AreFor (AreEntrySources u p) es all

pub record HasSources (u : Universe) (p : Plan) (all : List (List Source)) (n : ℕ) (e : Entry)
    : Type 0 where
  pub there : n < length all
  pub are : AreEntrySources u p e (slice_index_or all n [])

abbrev pub IsFoundFor : Universe → Plan → List (List Source) → Mark → ℕ → Type 0
IsFoundFor u p all mark n =
    (e : Entry) → instruction_at p mark.lane mark.place ≡ Some (Wait e) → HasSources u p all n e

pub record AreFoundFor (u : Universe) (p : Plan) (all : List (List Source)) (marks : List Mark)
    (numbers : List ℕ) : Type 0 where
  pub long : length numbers ≡ length marks
  pub each : (w : ℕ) (mark : Mark) → slice_get marks w ≡ Some mark
      → IsFoundFor u p all mark (slice_index numbers w)
