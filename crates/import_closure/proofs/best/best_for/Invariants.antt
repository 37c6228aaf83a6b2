use Rattle.std.proofs.Common.{◌≡◌, drop, map}
use Rattle.import_closure.specs.Given.{given_view}
use Rattle.import_closure.specs.Choice.{best_for}
use Rattle.import_closure.proofs.best.best_for.Given as goal

abbrev pub invariant-loop-atom : goal.invariant-loop-atom
invariant-loop-atom l =
    best_for (drop l.atom-index l.atom-items) (map (λ g. given_view g.now) l.among)
    ≡ best_for l.entry (map (λ g. given_view g.now) l.among)
