use Rattle.std.proofs.Common.{◌≡◌, ℕ, length, Some, slice_get}
use Rattle.cert_writer.specs.declared.carried.Spelled.{Spelled}
use Rattle.cert_writer.specs.Carried.{IsSpelled}
use Rattle.cert_writer.proofs.carried.Carried.new.Given as goal

-- the names so far
abbrev pub invariant-loop : goal.invariant-loop
invariant-loop l =
    (length l.spelled.items ≡ l.counter)
    × ((n : ℕ) (s : Spelled) → slice_get l.spelled.items n ≡ Some s → IsSpelled l.universe n s)
