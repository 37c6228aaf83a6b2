use Rattle.rest_farm.specs.Words.{AreFineBefore}
use Rattle.rest_farm.proofs.words.first_fault.Given as goal

abbrev pub invariant-loop-place : goal.invariant-loop-place
invariant-loop-place l = AreFineBefore l.rules l.words l.place
