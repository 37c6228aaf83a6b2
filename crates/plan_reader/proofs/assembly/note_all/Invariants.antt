use Rattle.std.proofs.Common.{◌≡◌, ◌++◌, false, drop}
use Rattle.plan_reader.specs.Drafts.{published}
use Rattle.plan_model.specs.Sound.{has_double}
use Rattle.plan_reader.proofs.assembly.note_all.Given as goal

abbrev pub invariant-loop-instruction : goal.invariant-loop-instruction
invariant-loop-instruction l = record {
  so_far : l.published.keys ++ published (drop l.instruction-index l.instructions)
      ≡ l.fn.published.keys ++ published l.instructions;
  once : has_double l.published.keys ≡ false;
}
