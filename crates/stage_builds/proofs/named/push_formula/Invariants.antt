use Rattle.std.proofs.Common.{◌≡◌, ◌++◌, map}
use Rattle.std.specs.List.{flat_map}
use Rattle.std.specs.Option.{option_map}
use Rattle.deb_text.specs.Common.{is_byte, length_left, parts_left}
use Rattle.stage_builds.specs.Profiles.{named_in_formula, named_in_terms}
use Rattle.stage_builds.proofs.named.push_formula.Given as goal

abbrev pub invariant-loop-left : goal.invariant-loop-left
invariant-loop-left l =
    map (λ word. word.now) l.words.items
    ++ flat_map named_in_terms (parts_left (is_byte 44) (option_map (λ rest. rest.now) l.left))
    ≡ map (λ word. word.now) l.fn.words.items ++ named_in_formula l.formula

abbrev pub decreases-loop-left : goal.decreases-loop-left
decreases-loop-left l = length_left (option_map (λ rest. rest.now) l.left)
