use Rattle.std.proofs.Common.{◌≡◌, drop}
use Rattle.deb_text.specs.Steps.{steps}
use Rattle.import_wish.specs.Head.{head_view}
use Rattle.import_wish.specs.Wish.{items_from, items_view, step_at}
use Rattle.import_wish.proofs.wish.read_items.Given as goal

abbrev pub invariant-loop-number : goal.invariant-loop-number
invariant-loop-number l =
    steps (step_at (head_view l.head)) (items_view l.items) (drop l.number l.paragraphs)
    ≡ items_from (head_view l.head) l.paragraphs
