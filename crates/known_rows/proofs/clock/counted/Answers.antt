use Rattle.std.proofs.Common.{ℕ, List, [], length, sym, subst}
use Rattle.std.proofs.lemmas.List.{get_or_default}
use Rattle.known_rows.specs.Column.{IsPointBelow}
use Rattle.known_rows.proofs.clock.counted.Goals as goal

pub at-requires : goal.at-requires
at-requires c =
    let columns = c.args.clock.now.columns.now in
    let j = c.args.other in
    subst (λ (xs : List ℕ). IsPointBelow (length xs) c.args.clock.now.last)
    (sym (get_or_default columns j c.index-clock-other.result []
    c.requires.other))
    c.requires.there
