use Rattle.std.proofs.Common.{◌≡◌}
use Rattle.std.specs.List.{list_any}
use Rattle.std.specs.Option.{option_map}
use Rattle.deb_text.specs.Common.{is_byte, length_left, parts_left}
use Rattle.deb_relation.specs.Common.{comma}
use Rattle.cross_index.specs.Reading.{item_taken, items_taken}
use Rattle.cross_index.proofs.reading.items_taken.Given as goal

abbrev pub invariant-loop-left : goal.invariant-loop-left
invariant-loop-left l =
    list_any (item_taken l.sides) (parts_left (is_byte comma) (option_map (λ rest. rest.now) l.left))
    ≡ items_taken l.sides l.value

abbrev pub decreases-loop-left : goal.decreases-loop-left
decreases-loop-left l = length_left (option_map (λ rest. rest.now) l.left)
