-- The entries of waits by number, and what is kept for each. The project's own words.
--
--   IsLonger          more entries behind the same
--   AreFor            each value is one of the entry of its number
use Rattle.std.specs.Prelude.{◌≡◌, ℕ, List, Some, slice_get}
use Rattle.deb_relation.specs.Relations.{Entry}
use Rattle.farm_model.specs.Common.{Universe, satisfies_entry}
use Rattle.sat_rows.specs.Rows.{IsRowOf}

abbrev pub IsLonger : List Entry → List Entry → Type 0
IsLonger es more = (k : ℕ) (e : Entry) → slice_get es k ≡ Some e → slice_get more k ≡ Some e

pub record IsFor {V : Type 0} (Is : Entry → V → Type 0) (es : List Entry) (k : ℕ) (v : V) : Type 0
  where
    pub entry : Entry
    pub at : slice_get es k ≡ Some entry
    pub is : Is entry v

abbrev pub AreFor : {V : Type 0} → (Entry → V → Type 0) → List Entry → List V → Type 0
AreFor {V} Is es vs = (k : ℕ) (v : V) → slice_get vs k ≡ Some v → IsFor Is es k v

-- the row of an entry
abbrev pub IsEntryRow : Universe → Entry → List ℕ → Type 0
IsEntryRow u e row = IsRowOf u (satisfies_entry u e) row
