use Rattle.std.proofs.Common.{◌≡◌}
use Rattle.std.specs.Option.{option_map}
use Rattle.deb_text.specs.Common.{length_left, traverse}
use Rattle.deb_relation.specs.Field.{entry_at, entries_left, only_judged}
use Rattle.deb_relation.proofs.field.judge_entries.Given as goal

abbrev pub invariant-loop-entry : goal.invariant-loop-entry
invariant-loop-entry l =
    let left = entries_left (option_map (λ rest. rest.now) l.left) in
    let all = entries_left (option_map (λ rest. rest.now) l.fn.text) in
    only_judged (traverse (entry_at l.kind) left) ≡ only_judged (traverse (entry_at l.kind) all)

abbrev pub decreases-loop-entry : goal.decreases-loop-entry
decreases-loop-entry l = length_left (option_map (λ rest. rest.now) l.left)
