-- Names and variants of a universe, by number.
use Rattle.std.proofs.Common.{◌≡◌, ℕ, ◌<◌, ◌≤◌, ap, inl, inr, length, [], arith}
use Rattle.std.proofs.lemmas.Bool.{cases_lt}
use Rattle.std.proofs.lemmas.List.{get_or_past}
use Rattle.farm_model.specs.Common.{names, variants, Universe}

-- what is no name has no variants
pub no_variants : (u : Universe) (name : ℕ) → names u ≤ name → variants u name ≡ 0
unfolding names variants
no_variants u name past = ap length (get_or_past u.packages name [] past)

-- a known variant has a name of the universe
pub named : (u : Universe) (name bit : ℕ) → bit < variants u name → name < names u
named u name bit lt =
    elim (cases_lt name (names u)) [
      | inl there ↦ there
      | inr past ↦ let none = no_variants u name past in absurd (omega arith)
    ]
