-- A list that is written through a slice of all of it.
use Rattle.std.proofs.Common.{◌≡◌, ℕ, List, ◌++◌, length, take, drop, ap, ◌∙◌, arith}
use Rattle.std.proofs.Math.ListN.{drop_of_length-le}
use Rattle.std.proofs.lemmas.List.{append-nil, take_all}

pub written : {A : Type 0} (n : ℕ) (seen new old first : List A)
    → seen ≡ take n (new ++ drop (length new) old) → first ≡ old → length first ≡ n
    → length new ≡ length first → seen ≡ new
written n seen new old first is e long same =
    is ∙ ap (λ xs. take n (new ++ xs)) (drop_of_length-le old (omega
    (arith, ap length e, same)))
    ∙ ap (take n) (append-nil new) ∙ take_all n new (omega (arith, long, same))
