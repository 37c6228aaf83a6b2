use Rattle.std.proofs.Common.{◌≡◌, false, true, get_or, take}
use Rattle.std.specs.List.{list_all}
use Rattle.stage_choice.proofs.marks.have_marks.Given as goal

abbrev pub invariant-loop-number : goal.invariant-loop-number
invariant-loop-number l =
    list_all (λ number. get_or l.marks number false) (take l.number-index l.numbers) ≡ true
