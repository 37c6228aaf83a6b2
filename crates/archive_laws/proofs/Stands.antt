-- Each lane of a world that is reached stands at a place of it, never at an `else` or an `end`.
use Rattle.std.proofs.Common.{ℕ, ◌<◌, false, List, length, Option, Some, ap, subst, arith}
use Rattle.std.specs.Prelude.{slice_index_or}
use Rattle.std.proofs.lemmas.Bool.{false≢true}
use Rattle.farm_model.specs.Universe.{Universe}
use Rattle.plan_model.specs.Common.{Plan, lane, instruction_at, LaneState, start, no_state, Rows, KeepsRows, IsSound, World, world_lane}
use Rattle.plan_model.specs.declared.instructions.Instruction.{Instruction}
use Rattle.plan_model.specs.declared.instructions.Instruction.TheVariants.{Otherwise, EndWhen}
use Rattle.farm_laws.proofs.Steps.{run_keeps}
use Rattle.farm_laws.proofs.Branches.{IsStand}
use Rattle.farm_laws.specs.EventsLeft.{StandsAt, InPlace}
use Rattle.farm_laws.proofs.KnownRows.{ArchiveHolds, archive_stays, archive_at_start}
use Rattle.archive_laws.specs.Shown.{IsReached}

-- rows that know nothing keep to the inclusions
abbrev pub no_rows : Rows
no_rows l i v = false

pub no_rows_keep : (u : Universe) (p : Plan) → KeepsRows u p no_rows
no_rows_keep u p =
    record {
      at_start = λ l v lt e. absurd (false≢true e);
      after = λ l i x v lt at e. absurd (false≢true e);
    }

-- what holds of the archive of a world that is reached
pub holds_in : (u : Universe) (p : Plan) → IsSound u p → (w : World) → (r : IsReached u p w)
    → ArchiveHolds u p no_rows (no_rows_keep u p) r.shown.0
holds_in u p sound w r =
    run_keeps u p (ArchiveHolds u p no_rows (no_rows_keep u p))
    (λ a b k h e. archive_stays u p no_rows (no_rows_keep u p) sound a b k h e) r.shown.1.0
    (start u p) r.shown.0 r.shown.1.1 (archive_at_start u p no_rows (no_rows_keep u p) sound)

-- each lane of a world that is reached stands at a place
pub in_place : (u : Universe) (p : Plan) → IsSound u p → (w : World) → IsReached u p w → (l : ℕ)
    → l < length p
    → InPlace u (lane p l).instructions (world_lane w l).done (world_lane w l).made
in_place u p sound w r l lt =
    subst (λ (st : LaneState). InPlace u (lane p l).instructions st.done st.made)
    (ap (λ (xs : List LaneState). slice_index_or xs l no_state) r.shown.2.lanes)
    ((holds_in u p sound w r).places.each l lt)

-- an `else` and an `end` have no event at which to stand
pub place_stands : (u : Universe) (o : Option Instruction) (made : ℕ) → StandsAt u o made
    → IsStand o
place_stands u (Some Otherwise) made lt = absurd (omega (arith, lt))
place_stands u (Some EndWhen) made lt = absurd (omega (arith, lt))
place_stands u _ made lt = tt

pub stands_in : (u : Universe) (p : Plan) → IsSound u p → (w : World) → IsReached u p w → (l : ℕ)
    → l < length p → IsStand (instruction_at p l (world_lane w l).done)
stands_in u p sound w r l lt =
    place_stands u _ (world_lane w l).made (in_place u p sound w r l lt)
