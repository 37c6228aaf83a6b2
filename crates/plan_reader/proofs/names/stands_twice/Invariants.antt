use Rattle.std.proofs.Common.{◌≡◌, drop}
use Rattle.plan_model.specs.Sound.{has_double}
use Rattle.plan_reader.proofs.names.stands_twice.Given as goal

abbrev pub invariant-loop-i : goal.invariant-loop-i
invariant-loop-i l = has_double l.numbers ≡ has_double (drop l.i l.numbers)
