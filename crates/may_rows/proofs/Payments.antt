-- What a lane may spend.
use Rattle.std.proofs.Common.{◌≡◌, ℕ, ◌+◌, ◌≤◌, Bool, false, sym, subst, ◌∙◌}
use Rattle.std.specs.Prelude.{nat_lt}
use Rattle.std.proofs.lemmas.Bool.{ltb-false}

-- what does not exceed the budget is within it
pub paid : (exceeds : Bool) (budget limit spent cost : ℕ) → exceeds ≡ nat_lt budget (spent + cost)
    → exceeds ≡ false → budget ≡ limit → spent + cost ≤ limit
paid exceeds budget limit spent cost is none same =
    subst (λ b. spent + cost ≤ b) same (ltb-false budget (spent + cost) (sym is ∙ none))
