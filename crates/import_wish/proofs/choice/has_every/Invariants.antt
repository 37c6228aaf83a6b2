use Rattle.std.proofs.Common.{◌≡◌, drop}
use Rattle.std.specs.List.{list_any}
use Rattle.import_wish.specs.Targets.{is_every}
use Rattle.import_wish.proofs.choice.has_every.Given as goal

abbrev pub invariant-loop-number : goal.invariant-loop-number
invariant-loop-number l =
    list_any is_every (drop l.number l.paragraphs) ≡ list_any is_every (drop 1 l.paragraphs)
