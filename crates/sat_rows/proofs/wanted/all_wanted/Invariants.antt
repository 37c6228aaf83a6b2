use Rattle.std.proofs.Common.{◌≡◌, ℕ, ◌<◌, List, length}
use Rattle.deb_relation.specs.Relations.{Entry}
use Rattle.farm_model.specs.Packages.{variants}
use Rattle.sat_rows.specs.Entries as numbers
use Rattle.sat_rows.specs.Links.{nth_list, IsNumbered}
use Rattle.sat_rows.specs.Served.{wanted}
use Rattle.sat_rows.proofs.wanted.all_wanted.Given as goal

-- the names so far
abbrev pub invariant-loop-name : goal.invariant-loop-name
invariant-loop-name l = record {
  long : length l.lists.items ≡ l.name;
  each : (entries : List Entry) → numbers.AreVariantNumbers l.universe entries l.numbers → (n : ℕ)
      → n < l.name
      → IsNumbered l.universe wanted entries n (variants l.universe n) (nth_list l.lists.items n);
}
