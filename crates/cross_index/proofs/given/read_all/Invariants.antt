use Rattle.std.proofs.Common.{◌≡◌, drop}
use Rattle.deb_text.specs.Common.{traverse, with_front}
use Rattle.cross_index.specs.Finished.{given_at}
use Rattle.cross_index.proofs.given.read_all.Given as goal

abbrev pub invariant-loop-at : goal.invariant-loop-at
invariant-loop-at l =
    with_front l.all.items (traverse (given_at l.sides) (drop l.at l.paragraphs))
    ≡ traverse (given_at l.sides) l.paragraphs
