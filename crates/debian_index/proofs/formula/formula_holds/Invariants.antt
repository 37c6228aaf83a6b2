use Rattle.std.proofs.Common.{◌≡◌}
use Rattle.std.specs.List.{list_any, slice_split, list_all}
use Rattle.std.specs.Option.{option_map}
use Rattle.deb_text.specs.Common.{is_byte, length_left, parts_left}
use Rattle.deb_profile.specs.Restriction.{is_among}
use Rattle.deb_relation.specs.Holding.{item_holds}
use Rattle.debian_index.specs.Given.{item_of}
use Rattle.debian_index.proofs.formula.formula_holds.Given as goal

abbrev pub invariant-loop-left : goal.invariant-loop-left
invariant-loop-left l =
    list_any (λ terms. list_all (λ term. item_holds (is_among l.active) (item_of term)) (slice_split (is_byte 43) terms)) (parts_left (is_byte 44) (option_map (λ rest. rest.now) l.left))
    ≡ list_any (λ terms. list_all (λ term. item_holds (is_among l.active) (item_of term)) (slice_split (is_byte 43) terms)) (slice_split (is_byte 44) l.formula)

abbrev pub decreases-loop-left : goal.decreases-loop-left
decreases-loop-left l = length_left (option_map (λ rest. rest.now) l.left)
