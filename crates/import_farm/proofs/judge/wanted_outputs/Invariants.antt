use Rattle.std.specs.Prelude.{All}
use Rattle.import_farm.specs.Imported.{IsOutput}
use Rattle.import_farm.proofs.judge.wanted_outputs.Given as goal

abbrev pub invariant-loop-name : goal.invariant-loop-name
invariant-loop-name l = All (IsOutput l.universe) l.wanted.items
