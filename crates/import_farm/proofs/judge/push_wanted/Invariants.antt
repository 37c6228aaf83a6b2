use Rattle.std.specs.Prelude.{All}
use Rattle.import_farm.specs.Imported.{IsOutput}
use Rattle.import_farm.proofs.judge.push_wanted.Given as goal

abbrev pub invariant-loop-variant : goal.invariant-loop-variant
invariant-loop-variant l = All (IsOutput l.universe) l.wanted.items
