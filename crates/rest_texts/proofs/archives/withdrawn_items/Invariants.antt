use Rattle.std.proofs.Common.{◌≡◌, ◌++◌, drop, map}
use Rattle.rest_texts.specs.Said.{named_items}
use Rattle.rest_texts.proofs.archives.withdrawn_items.Given as goal

abbrev pub invariant-loop-word : goal.invariant-loop-word
invariant-loop-word l =
    l.items.items ++ named_items (map (λ word. word.now) (drop l.word-index l.words))
    ≡ named_items (map (λ word. word.now) l.words)
