use Rattle.std.proofs.Common.{◌≡◌, Some}
use Rattle.std.specs.Option.{option_map}
use Rattle.deb_text.specs.Common.{length_left, traverse, with_front}
use Rattle.deb_relation.specs.Field.{entry_at, entries_left}
use Rattle.deb_relation.proofs.field.read_entries.Given as goal

abbrev pub invariant-loop-entry : goal.invariant-loop-entry
invariant-loop-entry l =
    let left = entries_left (option_map (λ rest. rest.now) l.left) in
    with_front l.entries.items (traverse (entry_at l.kind) left)
    ≡ traverse (entry_at l.kind) (entries_left (Some l.text))

abbrev pub decreases-loop-entry : goal.decreases-loop-entry
decreases-loop-entry l = length_left (option_map (λ rest. rest.now) l.left)
