-- The largest packages that a chroot may hold. Parameters: u a universe, m a may map, n a name.
--
--   is_before       one stands before another: larger, or as large and of a lower name
--   earliest        of the holders of the numbers below one, that which stands before the others
--   holder_in       the largest of a set of variants of the name, the lowest of equal ones
--   next_largest    the first of the names' holders that stand behind a last one
use Rattle.std.specs.Prelude.{ℕ, Bool, ◌&&◌, ◌||◌, ◌==◌, nat_lt, fold, Option, Some, None, if◌then◌else◌}
use Rattle.std.specs.List.{range_with_len}
use Rattle.farm_model.specs.Common.{names, variant, variants, size, Universe}
use Rattle.plan_model.specs.May.{Bits, May}
use Rattle.explain_reasons.specs.Listed.{held}
use Rattle.explain_reasons.specs.declared.largest.Holder.{Holder}

abbrev pub is_before : Holder → Holder → Bool
is_before h k =
    nat_lt k.size h.size || ((h.size == k.size) && nat_lt h.variant.name k.variant.name)

-- of two holders the one that stands before the other
abbrev pub earlier : Option Holder → Option Holder → Option Holder
earlier None k = k
earlier (Some h) None = Some h
earlier (Some h) (Some k) = if is_before k h then Some k else Some h

unfoldable pub earliest : ℕ → (ℕ → Option Holder) → Option Holder
earliest n f = fold (λ first k. earlier first (f k)) None (range_with_len 0 n)

-- a variant of a set, where it takes some space
abbrev pub holder_at : Universe → ℕ → Bits → ℕ → Option Holder
holder_at u n set b =
    let v = variant n b in
    if set b && nat_lt 0 (size u v) then Some (record { variant = v; size = size u v }) else None

abbrev pub holder_in : Universe → ℕ → Bits → Option Holder
holder_in u n set = earliest (variants u n) (holder_at u n set)

-- a holder that stands behind the last one, if there is one
abbrev pub behind : Option Holder → Option Holder → Option Holder
behind (Some last) (Some h) = if is_before last h then Some h else None
behind last h = h

abbrev pub next_largest : Universe → May → Option Holder → Option Holder
next_largest u m last = earliest (names u) (λ n. behind last (holder_in u n (held (m.slots n))))
