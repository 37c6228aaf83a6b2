use Rattle.std.proofs.Common.{◌≡◌}
use Rattle.std.specs.List.{list_all, slice_split}
use Rattle.std.specs.Option.{option_map}
use Rattle.deb_text.specs.Common.{is_byte, length_left, parts_left}
use Rattle.deb_profile.specs.Restriction.{is_among}
use Rattle.deb_relation.specs.Holding.{item_holds}
use Rattle.debian_index.specs.Given.{item_of}
use Rattle.debian_index.proofs.formula.all_hold.Given as goal

abbrev pub invariant-loop-left : goal.invariant-loop-left
invariant-loop-left l =
    list_all (λ term. item_holds (is_among l.active) (item_of term)) (parts_left (is_byte 43) (option_map (λ rest. rest.now) l.left))
    ≡ list_all (λ term. item_holds (is_among l.active) (item_of term)) (slice_split (is_byte 43) l.terms)

abbrev pub decreases-loop-left : goal.decreases-loop-left
decreases-loop-left l = length_left (option_map (λ rest. rest.now) l.left)
