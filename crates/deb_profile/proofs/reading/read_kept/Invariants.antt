use Rattle.std.proofs.Common.{◌≡◌, ◌++◌, Ok}
use Rattle.std.specs.List.{slice_split}
use Rattle.std.specs.Option.{option_map}
use Rattle.deb_text.specs.Common.{is_byte, length_left, parts_left, ◌>>=◌, traverse}
use Rattle.deb_relation.specs.Common.{alternative_at, bar}
use Rattle.deb_profile.specs.Reduction.{left_of, reduced_entry}
use Rattle.deb_profile.proofs.reading.read_kept.Given as goal

abbrev pub invariant-loop-left : goal.invariant-loop-left
invariant-loop-left l =
    let left = parts_left (is_byte bar) (option_map (λ rest. rest.now) l.left) in
    (traverse (alternative_at l.kind) left
    >>= λ entry. Ok (l.kept.items ++ reduced_entry l.names l.active entry))
    ≡ left_of l.names l.active
    (traverse (alternative_at l.kind) (slice_split (is_byte bar) l.text))

abbrev pub decreases-loop-left : goal.decreases-loop-left
decreases-loop-left l = length_left (option_map (λ rest. rest.now) l.left)
