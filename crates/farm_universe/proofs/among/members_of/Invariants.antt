use Rattle.std.proofs.Common.{◌≡◌, map, take}
use Rattle.farm_universe.specs.BaseText.{member_of}
use Rattle.farm_universe.specs.TableView.{table_view}
use Rattle.farm_universe.proofs.among.members_of.Given as goal

abbrev pub invariant-loop-variant : goal.invariant-loop-variant
invariant-loop-variant l =
    l.members.items ≡ map (member_of (table_view l.table)) (take l.variant-index l.variants)
