-- The variants of a name in a relation as a range of bits: they stand in the order of their
-- versions. The project's own words.
--
--   is_before, IsCountBefore    those earlier than a version, or perhaps as early
--   IsRange                     those in a relation, from one bit up to another
use Rattle.std.specs.Prelude.{◌≡◌, ℕ, ◌<◌, ◌≤◌, Bool, not, ◌&&◌, nat_lt, List, Option, if◌then◌else◌}
use Rattle.std.specs.declared.cmp.Ordering.{Ordering}
use Rattle.std.specs.Ordering.{is_lt, is_le}
use Rattle.deb_relation.specs.declared.operator.Op.{Op}
use Rattle.deb_version.specs.Grammar.{text_cmp}
use Rattle.farm_model.specs.Common.{Universe, variant, variants, package_of, is_wanted}

-- a version that stands so to another is earlier, or perhaps as early
abbrev pub is_before : Bool → Ordering → Bool
is_before or_equal order = if or_equal then is_le order else is_lt order

-- so many variants of a name are before a version: the first ones
pub record IsCountBefore (u : Universe) (n : ℕ) (bound : List ℕ) (or_equal : Bool) (count : ℕ)
    : Type 0 where
  pub within : count ≤ variants u n
  pub before : (b : ℕ) → b < variants u n
      → is_before or_equal (text_cmp (package_of u (variant n b)).version bound) ≡ nat_lt b count

-- the variants in a relation are those from a bit up to another
pub record IsRange (u : Universe) (n : ℕ) (wanted : Option (Op × List ℕ)) (low high : ℕ)
    : Type 0 where
  pub order : low ≤ high
  pub within : high ≤ variants u n
  pub each : (b : ℕ) → b < variants u n
      → is_wanted u wanted (variant n b) ≡ (not (nat_lt b low) && nat_lt b high)
