-- What the tables of a universe keep. The project's own words.
--
--   AreEntryRows      rows, and where the entries of each variant and of each recipe have theirs
--   EntryRows         all three, with those who satisfy and who have the entries
--   AreExclusions     who excludes whom, and what the recipes exclude
--   AreKept           the same with what they exclude, and a row without variants
use Rattle.std.specs.Prelude.{◌≡◌, ℕ, List, length, Option}
use Rattle.bit_rows.specs.Sets.{variants_of, HasNone}
use Rattle.deb_relation.specs.Relations.{Entry}
use Rattle.farm_model.specs.Common.{Universe, names}
use Rattle.farm_model.specs.declared.types.Variant.{Variant}
use Rattle.item_index.specs.declared.item.Item.{Item}
use Rattle.sat_rows.specs.declared.tables.Exclusions.{Exclusions}
use Rattle.sat_rows.specs.Clashes.{AreClashes}
use Rattle.sat_rows.specs.Entries.{Numbers, AreVariantNumbers, AreNeeds, AreRowsOf}
use Rattle.sat_rows.specs.Index.{IsProviding}
use Rattle.sat_rows.specs.Links.{Links, Exclusion, IsExclusion}
use Rattle.sat_rows.specs.Served.{AreServed}

-- there are entries whose rows these are, and each entry is numbered among them
pub record AreEntryRows (u : Universe) (by_name : List (List Numbers)) (by_recipe : List (List ℕ))
    (rows : List (List ℕ)) : Type 0 where
  pub entries : List Entry
  pub variants : AreVariantNumbers u entries by_name
  pub needs : AreNeeds u entries by_recipe
  pub rows_of : AreRowsOf u entries rows

-- whom the variants exclude, and what the recipes do
pub record AreExclusions (u : Universe) (all : Exclusions) : Type 0 where
  pub conflicts : IsExclusion u (λ binary. binary.conflicts) all.conflicts
  pub breaks : IsExclusion u (λ binary. binary.breaks) all.breaks
  pub clashes : AreClashes u all.clashes.items

pub record EntryRows : Type 0 where
  pub names : List (List Numbers)
  pub needs : List (List ℕ)
  pub rows : List (List ℕ)
  pub served : Links

-- all rows, the index of those who provide, and a row without variants
pub record AreKept (u : Universe) (by_name : List (List Numbers)) (by_recipe : List (List ℕ))
    (rows : List (List ℕ)) (by_conflict by_break : Exclusion) (by_clash : List (Option (List ℕ)))
    (lists : List (List (Item Variant))) (empty : List ℕ) (served : Links) : Type 0 where
  pub entries : AreEntryRows u by_name by_recipe rows
  pub served_by : AreServed u rows served
  pub conflicts : IsExclusion u (λ binary. binary.conflicts) by_conflict
  pub breaks : IsExclusion u (λ binary. binary.breaks) by_break
  pub clashes : AreClashes u by_clash
  pub providers : IsProviding u lists
  pub long : length empty ≡ names u
  pub none : HasNone (variants_of empty)
