-- Sizes are within their limit.
use Rattle.std.proofs.Common.{ℕ, ◌<◌, ◌≤◌, inl, inr, ap, length, [], arith}
use Rattle.std.proofs.lemmas.Bool.{cases_lt}
use Rattle.std.proofs.lemmas.List.{get_or_past}
use Rattle.farm_universe.specs.Kept.{IsKept}
use Rattle.farm_model.specs.Common.{variant, variants, package_of, no_package, size, Universe}
use Rattle.farm_universe.specs.declared.limits.TheConstants.{MOST_SIZE}

pub size_small : (u : Universe) (name bit : ℕ) → IsKept u → bit < variants u name
    → size u (variant name bit) ≤ MOST_SIZE
unfolding variants package_of size
size_small u name bit kept lt =
    elim (cases_lt name (length u.packages)) [
      | inl named ↦ kept.small name [] named bit no_package lt
      | inr past ↦
          let none = ap length (get_or_past u.packages name [] past) in absurd (omega arith)
    ]
