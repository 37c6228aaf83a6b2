use Rattle.known_rows.specs.EntrySources.{AreMarkNumbers}
use Rattle.known_rows.proofs.entry_sources.named_entries.Given as goal

-- the marks so far
abbrev pub invariant-loop-w : goal.invariant-loop-w
invariant-loop-w l = AreMarkNumbers l.plan.lanes l.entries l.marks l.numbers.items l.w
