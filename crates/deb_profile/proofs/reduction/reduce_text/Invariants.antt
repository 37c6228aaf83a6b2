use Rattle.std.proofs.Common.{◌≡◌, ◌≤◌, length}
use Rattle.std.specs.Option.{option_map}
use Rattle.deb_text.specs.Common.{length_left, traverse}
use Rattle.deb_relation.specs.Field.{entry_at, entries_left}
use Rattle.deb_relation.proofs.FieldLaws.{kept_on}
use Rattle.deb_profile.specs.Reduction.{reduced, reduced_at}
use Rattle.deb_profile.proofs.reduction.reduce_text.Given as goal

abbrev pub invariant-loop-alloc : goal.invariant-loop-alloc
invariant-loop-alloc l =
    let left = entries_left (option_map (λ rest. rest.now) l.left) in
    let read = traverse (entry_at l.kind) left in
    record {
      within : length l.entries.items ≤ l.most;
      so_far : kept_on (reduced l.names l.active) l.most l.entries.items read
          ≡ reduced_at l.most l.names l.active l.kind l.text;
    }

abbrev pub decreases-loop-alloc : goal.decreases-loop-alloc
decreases-loop-alloc l = length_left (option_map (λ rest. rest.now) l.left)
