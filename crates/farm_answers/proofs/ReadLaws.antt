-- What a reader had, read by a limit.
use Rattle.std.proofs.Common.{◌≡◌, ℕ, ◌+◌, ◌≤◌, List, length, take, take_all, length-take, Option, None, Some, IfSome, subst, ap, ◌∙◌, arith}

-- bytes that one more than the limit did not hold back are all that was given
pub whole_of : (given had : Option (List ℕ)) (most : ℕ) (read : List ℕ)
    → IfSome given (λ bytes. had ≡ Some bytes)
    → IfSome had (λ bytes. read ≡ take (most + 1) bytes) → length read ≤ most
    → IfSome given (λ bytes. read ≡ bytes)
whole_of None had most read is known few = tt
whole_of (Some bytes) had most read is known few =
    let cut : read ≡ take (most + 1) bytes =
    subst (λ h. IfSome h (λ bytes. read ≡ take (most + 1) bytes)) is known in
    cut ∙ take_all (most + 1) bytes
    (omega (arith, length-take (most + 1) bytes, ap length cut, few))
