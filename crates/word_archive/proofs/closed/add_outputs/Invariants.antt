use Rattle.word_archive.proofs.closed.add_outputs.Given as goal
use Rattle.std.proofs.Common.{◌++◌, ◌≡◌}
use Rattle.word_archive.specs.History.{first_published}

abbrev pub invariant-loop-i : goal.invariant-loop-i
invariant-loop-i l =
    l.history.items ≡ l.fn.history.items ++ first_published l.lane l.outputs l.serials l.i
