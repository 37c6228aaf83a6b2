use Rattle.std.proofs.Common.{◌≡◌, None, map, take, fold}
use Rattle.std.specs.Option.{option_map}
use Rattle.import_closure.specs.Given.{given_view}
use Rattle.import_closure.specs.Choice.{better_of}
use Rattle.import_closure.proofs.best.best_of.Given as goal

abbrev pub invariant-loop-given : goal.invariant-loop-given
invariant-loop-given l =
    option_map (λ g. given_view g.now) l.best
    ≡ fold (better_of l.atom) None (map (λ g. given_view g.now) (take l.given-index l.among))
