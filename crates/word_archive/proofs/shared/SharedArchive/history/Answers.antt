use Rattle.word_archive.proofs.shared.SharedArchive.history.Goals as goal
use Rattle.std.proofs.Common.{rules}
use Rattle.std.proofs.lemmas.List.Sorted.{IsNonDecreasingBy-from_sort_by_key}

pub returns-clause-order : goal.returns-clause-order
returns-clause-order c =
    IsNonDecreasingBy-from_sort_by_key (λ h. h.serial) _ c.in_ok-sort_by_key.ensures.sorted
    (λ a r q k. search rules)
