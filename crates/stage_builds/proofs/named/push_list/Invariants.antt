use Rattle.std.proofs.Common.{◌≡◌, ◌++◌, drop, map}
use Rattle.stage_builds.specs.Profiles.{named_in_list}
use Rattle.stage_builds.proofs.named.push_list.Given as goal

abbrev pub invariant-loop-item : goal.invariant-loop-item
invariant-loop-item l =
    map (λ word. word.now) l.words.items ++ named_in_list (drop l.item-index l.item-items)
    ≡ map (λ word. word.now) l.fn.words.items ++ named_in_list l.list
