use Rattle.std.proofs.Common.{◌≡◌, Ok}
use Rattle.std.specs.Option.{option_map}
use Rattle.deb_text.specs.Common.{length_left, traverse}
use Rattle.deb_relation.specs.Field.{entry_at, entries_left, only_judged}
use Rattle.deb_relation.specs.declared.kind.Kind.TheVariants.{Provide}
use Rattle.farm_universe.specs.FarmView.{AreListed}
use Rattle.farm_universe.specs.ListText.{list_at}
use Rattle.farm_universe.specs.TableView.{table_view}
use Rattle.farm_universe.proofs.TextListLaws.{items_left}
use Rattle.farm_universe.proofs.list.read_items.Given as goal

abbrev pub invariant-loop-item : goal.invariant-loop-item
invariant-loop-item l =
    let left = entries_left (option_map (λ rest. rest.now) l.left) in
    record {
      so_far : items_left (table_view l.table) l.list.variants.items left
          ≡ list_at (table_view l.table) l.text;
      judged : only_judged (traverse (entry_at Provide) left) ≡ Ok tt;
      listed : AreListed (table_view l.table) l.list;
    }

abbrev pub decreases-loop-item : goal.decreases-loop-item
decreases-loop-item l = length_left (option_map (λ rest. rest.now) l.left)
