use Rattle.std.proofs.Common.{◌≡◌, ◌≤◌}
use Rattle.std.specs.Option.{option_map}
use Rattle.deb_text.specs.Cuts.{length_left}
use Rattle.deb_relation.specs.Field.{entries_left}
use Rattle.deb_relation.proofs.field.next_entry.Given as goal

abbrev pub invariant-loop-left : goal.invariant-loop-left
invariant-loop-left l =
    let left = option_map (λ rest. rest.now) l.left in
    let all = option_map (λ rest. rest.now) l.fn.text in
    (entries_left left ≡ entries_left all) × (length_left left ≤ length_left all)

abbrev pub decreases-loop-left : goal.decreases-loop-left
decreases-loop-left l = length_left (option_map (λ rest. rest.now) l.left)
