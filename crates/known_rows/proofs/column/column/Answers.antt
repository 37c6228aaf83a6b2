use Rattle.std.proofs.Common.{ℕ, ◌≡◌, ◌≤◌, All, Some, List, slice_get, slice_index, subst}
use Rattle.known_rows.specs.declared.column.Point.{Point}
use Rattle.known_rows.specs.Column.{of_list, bound}
use Rattle.known_rows.proofs.Visits.{settled_greatest}
use Rattle.known_rows.proofs.column.column.Goals as goal

pub returns-then-are_settled : goal.returns-then-are_settled
returns-then-are_settled c =
    let ps = c.args.points.now in
    let counts = c.in_ok-counts.counts.items in
    let made = c.in_ok-counts.ensures in
    let holds : List ℕ → ℕ → Type 0 =
    λ xs w. (p : Point) → slice_get ps w ≡ Some p
    → slice_index xs w ≤ bound c.args.lane c.args.total (of_list xs) p in
    settled_greatest c.args.lane c.args.total ps c.args.visit.now counts c.requires.visit made.long
    made.above made.settled
    (subst (λ xs. All (holds xs) c.args.visit.now.late.items) c.deref.ensures.value
    (subst (λ ws. All (holds c.deref.result.now) ws) c.deref-2.ensures.value
    (c.are_settled.ensures c.if-are_settled.true)))
