-- The time of a run's beginning is a stamp.
use Rattle.std.proofs.Common.{arith, ◌≡◌, ℕ, zero, suc, ◌/◌, ◌%◌, ◌<◌, ◌==◌, Bool, true, ◌&&◌, List, length, slice_index, Result, Ok, Err, refl, sym, ap, subst, ◌∙◌, inl, inr}
use Rattle.std.specs.Prelude.{IfOk}
use Rattle.std.specs.Int.{w64, byte_at, bytes_high_first, to_be_bytes}
use Rattle.std.specs.List.{list_all}
use Rattle.std.proofs.lemmas.Bool.{and_from, and_parts, cases_lt}
use Rattle.drive_journal.specs.HeadText.{is_hex_byte, is_stamp, stamp_text}
use Rattle.hex.specs.Hex.{encode_lower, encode_with, lower_digits}

-- whether the first n digits are hex bytes, which computes
abbrev are_hex : ℕ → Bool
are_hex zero = true
are_hex (suc n) = is_hex_byte (slice_index lower_digits n) && are_hex n

hex_below : (n k : ℕ) → are_hex n ≡ true → k < n → is_hex_byte (slice_index lower_digits k) ≡ true
hex_below zero k are lt = absurd (omega arith)
hex_below (suc n) k are lt =
    let parts = and_parts (is_hex_byte (slice_index lower_digits n)) (are_hex n) are in
    elim (cases_lt k n) [
      | inl below ↦ hex_below n k parts.1 below
      | inr top ↦
          let e : k ≡ n = omega arith in
          rw e parts.0
    ]

hex_digit : (k : ℕ) → k < 16 → is_hex_byte (slice_index lower_digits k) ≡ true
hex_digit k lt = hex_below 16 k refl lt

byte_small : (i n : ℕ) → byte_at i n < 256
byte_small zero n = omega arith
byte_small (suc i) n = omega arith

hex_text : (k n : ℕ) → list_all is_hex_byte (encode_lower (bytes_high_first k n)) ≡ true
unfolding encode_with
hex_text zero n = refl
hex_text (suc k) n =
    let b = byte_at k n in
    let small : b < 256 = byte_small k n in
    let high : b / 16 < 16 = omega arith in
    let low : b % 16 < 16 = omega arith in
    and_from (is_hex_byte (slice_index lower_digits (b / 16))) _ (hex_digit (b / 16) high)
    (and_from (is_hex_byte (slice_index lower_digits (b % 16))) _ (hex_digit (b % 16) low)
    (hex_text k n))

time_is_stamp : (n : ℕ) → is_stamp (stamp_text n) ≡ true
unfolding encode_with
time_is_stamp n = and_from (length (stamp_text n) == 16) _ refl (hex_text 8 n)

pub stamped : {S E : Type 0} (bytes : S → List ℕ) (digits : List ℕ) (n : ℕ) (result : Result S E)
    → digits ≡ to_be_bytes w64 n → IfOk result (λ s. bytes s ≡ encode_lower digits)
    → IfOk result (λ s. is_stamp (bytes s) ≡ true)
stamped bytes digits n (Ok s) of is =
    subst (λ text. is_stamp text ≡ true) (sym (is ∙ ap encode_lower of)) (time_is_stamp n)
stamped bytes digits n (Err e) of is = tt
