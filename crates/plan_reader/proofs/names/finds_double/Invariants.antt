use Rattle.std.proofs.Common.{◌≡◌, ◌<◌, take, false, length, All}
use Rattle.plan_reader.specs.Seen.{Marks}
use Rattle.plan_model.specs.Sound.{has_double}
use Rattle.plan_reader.proofs.names.finds_double.Given as goal

abbrev pub invariant-loop-i : goal.invariant-loop-i
invariant-loop-i l = record {
  shown : Marks l.seen (take l.i l.numbers);
  once : has_double (take l.i l.numbers) ≡ false;
  known : All (λ n. n < length l.seen) l.numbers;
}
