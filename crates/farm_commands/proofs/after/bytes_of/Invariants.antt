use Rattle.std.proofs.Common.{◌≡◌, ℕ, List, map, take}
use Rattle.std.specs.Borrow.{Bor}
use Rattle.farm_commands.proofs.after.bytes_of.Given as goal

abbrev pub invariant-loop-word : goal.invariant-loop-word
invariant-loop-word l =
    map (λ (text : Bor (List ℕ)). text.now) l.texts.items
    ≡ map (λ (word : Bor (List ℕ)). word.now) (take l.word-index l.words)
