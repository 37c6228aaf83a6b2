use Rattle.std.proofs.Common.{◌≡◌, ◌++◌, drop, map}
use Rattle.std.specs.List.{flat_map}
use Rattle.stage_builds.specs.Profiles.{named_in_atom, named_in_list}
use Rattle.stage_builds.proofs.named.push_atom.Given as goal

abbrev pub invariant-loop-list : goal.invariant-loop-list
invariant-loop-list l =
    map (λ word. word.now) l.words.items ++ flat_map named_in_list (drop l.list-index l.list-items)
    ≡ map (λ word. word.now) l.fn.words.items ++ named_in_atom l.atom
