-- What is written for a byte is its escaped text.
use Rattle.std.proofs.Common.{◌≡◌, ℕ, ◌/◌, ◌%◌, ◌<◌, Bool, true, false, if◌then◌else◌, List, [], ◌∷◌, ◌++◌, encode_utf8, sym, ap, ◌∙◌}
use Rattle.std.proofs.lemmas.Str.{encode_ascii}
use Rattle.std.specs.Char.{digit_char}
use Rattle.plan_verifier.specs.Messages.{is_plain, escaped_byte}

module _ (byte : ℕ) where
  abbrev of : Bool → List ℕ
  of plain =
      if plain then byte ∷ [] else 92 ∷ 120 ∷ digit_char (byte / 16) ∷ digit_char (byte % 16) ∷ []

  pub plain_is : byte < 128 → is_plain byte ≡ true → encode_utf8 byte ≡ escaped_byte byte
  unfolding escaped_byte
  plain_is ascii is = encode_ascii byte ascii ∙ sym (ap of is)

  pub escaped_is : (high low : ℕ) → high ≡ digit_char (byte / 16) → low ≡ digit_char (byte % 16)
      → high < 128 → low < 128 → is_plain byte ≡ false
      → ((92 ∷ 120 ∷ []) ++ encode_utf8 high) ++ encode_utf8 low ≡ escaped_byte byte
  unfolding escaped_byte
  escaped_is high low high-is low-is high-ascii low-ascii is =
      ap (λ (t : List ℕ). ((92 ∷ 120 ∷ []) ++ t) ++ encode_utf8 low) (encode_ascii high high-ascii)
      ∙ ap (λ (t : List ℕ). 92 ∷ 120 ∷ high ∷ t) (encode_ascii low low-ascii)
      ∙ ap (λ (d : ℕ). 92 ∷ 120 ∷ d ∷ low ∷ []) high-is
      ∙ ap (λ (d : ℕ). 92 ∷ 120 ∷ digit_char (byte / 16) ∷ d ∷ []) low-is
      ∙ sym (ap of is)
