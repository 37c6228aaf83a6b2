use Rattle.std.proofs.Common.{◌≡◌}
use Rattle.std.specs.List.{slice_split}
use Rattle.std.specs.Option.{option_map}
use Rattle.deb_text.specs.Common.{is_byte, length_left, parts_left, traverse, with_front}
use Rattle.deb_relation.specs.Field.{alternative_at}
use Rattle.deb_relation.specs.Marks.{bar}
use Rattle.deb_relation.proofs.field.read_alternatives.Given as goal

abbrev pub invariant-loop-left : goal.invariant-loop-left
invariant-loop-left l =
    let left = parts_left (is_byte bar) (option_map (λ rest. rest.now) l.left) in
    with_front l.alternatives.items (traverse (alternative_at l.kind) left)
    ≡ traverse (alternative_at l.kind) (slice_split (is_byte bar) l.text)

abbrev pub decreases-loop-left : goal.decreases-loop-left
decreases-loop-left l = length_left (option_map (λ rest. rest.now) l.left)
