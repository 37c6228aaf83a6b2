use Rattle.std.proofs.Common.{◌≡◌, ℕ, ◌≤◌, ◌==◌, true, false, length, map, drop, get_or}
use Rattle.std.specs.List.{list_any}
use Rattle.farm_universe.specs.BaseText.{member_of, one_of_each}
use Rattle.farm_universe.specs.TableView.{table_view}
use Rattle.farm_universe.proofs.settled.one_of_each.Given as goal

-- no two of those that were looked at are of one name, and their names are marked
abbrev pub invariant-loop-left : goal.invariant-loop-left
invariant-loop-left l =
    let table = table_view l.table in
    let behind = map (member_of table) (drop l.left l.variants) in record {
      within : l.left ≤ length l.variants;
      long : length l.seen.items ≡ length table.names;
      once : one_of_each behind ≡ true;
      seen : (n : ℕ) → get_or l.seen.items n false ≡ list_any (λ other. other.number == n) behind;
    }

abbrev pub decreases-loop-left : goal.decreases-loop-left
decreases-loop-left l = l.left
