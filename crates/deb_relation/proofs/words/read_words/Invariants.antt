use Rattle.std.proofs.Common.{◌≡◌, length}
use Rattle.deb_text.specs.Common.{traverse, with_front, words}
use Rattle.deb_relation.proofs.words.read_words.Given as goal

abbrev pub invariant-loop-word : goal.invariant-loop-word
invariant-loop-word g l =
    with_front l.list.items (traverse (g.R.WordRule.meaning l.rule) (words l.rest))
    ≡ traverse (g.R.WordRule.meaning l.rule) (words l.text)

abbrev pub decreases-loop-word : goal.decreases-loop-word
decreases-loop-word g l = length l.rest
