use Rattle.std.proofs.Common.{◌≡◌}
use Rattle.std.specs.List.{list_any, slice_split}
use Rattle.std.specs.Option.{option_map}
use Rattle.deb_text.specs.Common.{is_byte, length_left, parts_left}
use Rattle.deb_profile.specs.Restriction.{is_among}
use Rattle.cross_sources.proofs.list.has_place.Given as goal

abbrev pub invariant-loop-left : goal.invariant-loop-left
invariant-loop-left l =
    list_any (is_among l.names) (parts_left (is_byte 44) (option_map (λ rest. rest.now) l.left))
    ≡ list_any (is_among l.names) (slice_split (is_byte 44) l.places)

abbrev pub decreases-loop-left : goal.decreases-loop-left
decreases-loop-left l = length_left (option_map (λ rest. rest.now) l.left)
