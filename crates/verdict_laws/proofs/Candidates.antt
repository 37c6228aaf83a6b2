-- What an unpack may take where more is known: from a higher variant up.
use Rattle.std.proofs.Common.{◌≡◌, ℕ, ◌<◌, ◌≤◌, Bool, true, ◌&&◌, List, Option, Some, arith}
use Rattle.std.specs.Prelude.{nat_le}
use Rattle.std.proofs.lemmas.Bool.{and_parts, and_from, leb-true, le-leb}
use Rattle.deb_relation.specs.declared.operator.Op.{Op}
use Rattle.farm_model.specs.Common.{Universe, variant, variants, is_wanted}
use Rattle.farm_model.specs.declared.types.Variant.{Variant}
use Rattle.farm_model.proofs.BelowLaws.{some_below-at, highest_below-some, highest_below-there}
use Rattle.plan_model.specs.Common.{newest, candidates}
use Rattle.verdict_laws.proofs.Narrower.{IsPart}

-- an unpack under more known variants: the highest is no lower
pub record Higher (u : Universe) (more : Variant → Bool) (name : ℕ) (wanted : Option (Op × List ℕ))
    (b : ℕ) : Type 0 where
  pub highest : ℕ
  pub is : newest u more name wanted ≡ Some highest
  pub above : b ≤ highest
  pub below : highest < variants u name
  pub known : more (variant name highest) ≡ true
  pub is_wanted_too : is_wanted u wanted (variant name highest) ≡ true

pub higher : (u : Universe) (known more : Variant → Bool) (name : ℕ) (wanted : Option (Op × List ℕ))
    (b : ℕ)
    → ((v : Variant) → known v ≡ true → more v ≡ true) → newest u known name wanted ≡ Some b
    → Higher u more name wanted b
unfolding newest
higher u known more name wanted b h e =
    let low =
    highest_below-some (variants u name)
    (λ b. known (variant name b) && is_wanted u wanted (variant name b)) b e in
    let parts =
    and_parts (known (variant name b)) (is_wanted u wanted (variant name b)) low.passes in
    let both : (more (variant name b) && is_wanted u wanted (variant name b)) ≡ true =
    and_from _ _ (h (variant name b) parts.0) parts.1 in
    let found =
    highest_below-there (variants u name)
    (λ b. more (variant name b) && is_wanted u wanted (variant name b)) b low.below both in
    let high =
    highest_below-some (variants u name)
    (λ b. more (variant name b) && is_wanted u wanted (variant name b)) found.0 found.1 in
    let pair =
    and_parts (more (variant name found.0))
    (is_wanted u wanted (variant name found.0)) high.passes in
    record {
      highest = found.0;
      is = found.1;
      above = high.highest b low.below both;
      below = high.below;
      known = pair.0;
      is_wanted_too = pair.1;
    }

-- the candidates are then a part, which has the highest
pub candidates-part : (u : Universe) (may more : Variant → Bool) (name : ℕ)
    (wanted : Option (Op × List ℕ)) (b : ℕ) (r : Higher u more name wanted b)
    → (more (variant name r.highest) ≡ true → may (variant name r.highest) ≡ true)
    → IsPart (variants u name) (candidates u may name wanted r.highest)
    (candidates u may name wanted b)
unfolding candidates
candidates-part u may more name wanted b r h =
    record {
      within =
          λ k lt e. let parts = and_parts
          (may (variant name k) && is_wanted u wanted (variant name k)) (nat_le r.highest k) e in
          and_from _ _ parts.0 (le-leb b k (omega (arith, r.above, leb-true r.highest k parts.1)));
      some =
          λ e. some_below-at (variants u name)
          (candidates u may name wanted r.highest) r.highest r.below
          (and_from _ _ (and_from _ _ (h r.known) r.is_wanted_too)
          (le-leb r.highest r.highest (omega arith)));
    }
