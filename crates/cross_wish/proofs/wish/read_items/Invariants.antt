use Rattle.std.proofs.Common.{◌≡◌, drop}
use Rattle.deb_text.specs.Steps.{steps}
use Rattle.cross_wish.specs.Views.{cross_head_view, cross_items_view}
use Rattle.cross_wish.specs.Wish.{items_from, step_at}
use Rattle.cross_wish.proofs.wish.read_items.Given as goal

abbrev pub invariant-loop-number : goal.invariant-loop-number
invariant-loop-number l =
    steps (step_at (cross_head_view l.head)) (cross_items_view l.items) (drop l.number l.paragraphs)
    ≡ items_from (cross_head_view l.head) l.paragraphs
