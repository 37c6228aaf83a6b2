-- The words of an archive with one more bit.
use Rattle.std.proofs.Common.{◌≡◌, ◌⊎◌, inl, inr, ℕ, ◌<◌, ◌^◌, max, true, false, ◌&&◌, ◌||◌, ◌==◌, List, length, sym, ap, ◌∙◌, arith, get_or-set_same, get_or-set_other}
use Rattle.std.specs.Prelude.{slice_index, bit_or}
use Rattle.std.specs.Int.{bit_at}
use Rattle.std.proofs.Math.Bool.{or-false}
use Rattle.std.proofs.lemmas.Bool.{cases_eq, cases_lt, and_from, and_left, and_right, or_left, or_right, eq-eqb, ne_eqb}
use Rattle.std.proofs.lemmas.List.{set_past}
use Rattle.std.proofs.lemmas.Nat.Bits.{bit_at_or, bit_at-lt, bit_at-pow_same, bit_at-pow_other}
use Rattle.farm_model.specs.Packages.{same, has_bit}
use Rattle.farm_model.specs.declared.types.Variant.{Variant}
use Rattle.plan_model.specs.World.{with_bit}

-- the bit of one variant set is one more variant
pub has_bit-with_bit : (words : List ℕ) (v w : Variant) → v.name < length words
    → has_bit (with_bit words v) w ≡ (has_bit words w || same v w)
unfolding has_bit same
has_bit-with_bit words v w lt = by (cases_eq w.name v.name) (cases_eq w.bit v.bit)
  where
    old : ℕ
    old = slice_index words v.name

    here : w.name ≡ v.name → bit_at (slice_index
        (with_bit words v) w.name) w.bit ≡ max (bit_at old w.bit) (bit_at (2 ^ v.bit) w.bit)
    here n =
        ap (λ k. bit_at (slice_index (with_bit words v) k) w.bit) n
        ∙ ap (λ k. bit_at k w.bit) (get_or-set_same words v.name (bit_or old (2 ^ v.bit)) 0 lt)
        ∙ bit_at_or old (2 ^ v.bit) w.bit

    unchanged : bit_at (slice_index (with_bit words v) w.name) w.bit ≡ bit_at
        (slice_index words w.name) w.bit → ((v.name == w.name) && (v.bit == w.bit)) ≡ false
        → (bit_at (slice_index (with_bit words v) w.name) w.bit == 1) ≡
        ((bit_at (slice_index words w.name) w.bit == 1) ||
        ((v.name == w.name) && (v.bit == w.bit)))
    unchanged e other =
        ap (λ k. k == 1) e ∙ sym (ap
        (λ b. (bit_at (slice_index words w.name) w.bit == 1) || b) other ∙ or-false _)

    by : (w.name ≡ v.name) ⊎ (w.name ≡ v.name → ⊥) → (w.bit ≡ v.bit) ⊎ (w.bit ≡ v.bit → ⊥)
        → (bit_at (slice_index (with_bit words v) w.name) w.bit == 1) ≡
        ((bit_at (slice_index words w.name) w.bit == 1) ||
        ((v.name == w.name) && (v.bit == w.bit)))
    by (inl n) (inl b) =
        let one : bit_at (2 ^ v.bit) w.bit ≡ 1 =
        ap (bit_at (2 ^ v.bit)) b ∙ bit_at-pow_same v.bit in
        let set : max (bit_at old w.bit) (bit_at (2 ^ v.bit) w.bit) ≡ 1 =
        omega (arith, one, bit_at-lt old w.bit) in
        eq-eqb _ 1 (here n ∙ set) ∙ sym (or_right (bit_at
        (slice_index words w.name) w.bit == 1) _
        (and_from _ _ (eq-eqb v.name w.name (sym n)) (eq-eqb v.bit w.bit (sym b))))
    by (inl n) (inr b) =
        let none : bit_at (2 ^ v.bit) w.bit ≡ 0 = bit_at-pow_other v.bit w.bit b in
        let kept : max (bit_at old w.bit) (bit_at (2 ^ v.bit) w.bit) ≡ bit_at old w.bit =
        omega (arith, none) in
        unchanged (here n ∙ kept ∙ ap (λ k. bit_at (slice_index words k) w.bit) (sym n))
        (and_right _ _ (ne_eqb v.bit w.bit (λ q. b (sym q))))
    by (inr n) other =
        unchanged (ap (λ k. bit_at k w.bit) (get_or-set_other words v.name w.name _ 0 n))
        (and_left _ _ (ne_eqb v.name w.name (λ q. n (sym q))))

-- nothing goes
pub with_bit-keeps : (words : List ℕ) (v w : Variant) → has_bit words w ≡ true
    → has_bit (with_bit words v) w ≡ true
with_bit-keeps words v w e =
    elim (cases_lt v.name (length words)) [
      | inl lt ↦ has_bit-with_bit words v w lt ∙ or_left _ _ e
      | inr past ↦ ap (λ ws. has_bit ws w) (set_past words v.name _ past) ∙ e
    ]
