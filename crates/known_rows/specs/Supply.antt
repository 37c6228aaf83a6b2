-- What a plan supplies to its points: the initial archive, and the outputs of its lanes. The
-- project's own words.
--
--   IsSupply      its parts belong together
--   IsWhole       those of a supply do
use Rattle.std.specs.Prelude.{◌≡◌, ℕ, List, length}
use Rattle.farm_model.specs.Common.{Universe, names, initial}
use Rattle.plan_model.specs.Common.{Plan, IsSound}
use Rattle.sat_rows.specs.Rows.{IsRowOf}
use Rattle.known_rows.specs.ByName.{AreListedByName}
use Rattle.known_rows.specs.Marks.{AreLanes}
use Rattle.known_rows.specs.declared.by_name.OutputPlace.{OutputPlace}
use Rattle.known_rows.specs.declared.marks.LaneOutputs.{LaneOutputs}
use Rattle.known_rows.specs.declared.supply.Supply.{Supply}

-- A sound plan over a universe; the tables and the archive are of that universe, the outputs of the
-- lanes are the plan's, and each is listed under its name:
pub record IsSupply (u : Universe) (p : Plan) (tables : Universe) (archive : List ℕ)
    (lanes : List LaneOutputs) (lists : List (List OutputPlace)) : Type 0 where
  pub sound : IsSound u p
  pub tables_are : tables ≡ u
  pub archive_is : IsRowOf u (initial u) archive
  pub lanes_are : AreLanes u p lanes
  pub long : length lists ≡ names u
  pub listed : AreListedByName lists lanes (length lanes)

abbrev pub IsWhole : Supply → Type 0
IsWhole supply =
    IsSupply supply.universe.now supply.plan.now.lanes supply.tables.now supply.archive.now
    supply.lanes.now supply.by_name.now
