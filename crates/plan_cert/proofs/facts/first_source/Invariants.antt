use Rattle.plan_cert.specs.Facts.{HasNoSource}
use Rattle.plan_cert.specs.Stated.{in_row}
use Rattle.plan_cert.proofs.facts.first_source.Given as goal

-- none so far
abbrev pub invariant-loop-n : goal.invariant-loop-n
invariant-loop-n l = HasNoSource (in_row l.question.sources.now) l.variants l.n
