-- A printed line of a row is read again.
use Rattle.std.proofs.Common.{◌≡◌, ℕ, ◌<◌, ◌^◌, Bool, true, false, not, ◌&&◌, List, [], ◌∷◌, ◌++◌, refl, sym, ap, ◌∙◌, append_assoc, Some, eq-eqb, true≢false}
use Rattle.std.specs.Prelude.{codes}
use Rattle.std.proofs.lemmas.Bool.{and_parts, not-true, or_parts}
use Rattle.std.specs.Fmt.{decimal}
use Rattle.std.specs.List.{list_all, list_any}
use Rattle.deb_text.proofs.AgainLaws.{run-parts, number-again, value-again, number-run}
use Rattle.deb_text.proofs.CutLaws.{front-again, behind-again}
use Rattle.deb_text.proofs.ListLaws.{bytes-self}
use Rattle.deb_text.proofs.TestLaws.{none-other}
use Rattle.deb_text.specs.Common.{is_blank, is_solid, is_digit, is_nil, before, after, first_is, is_run}
use Rattle.farm_model.specs.Universe.{Universe}
use Rattle.cert_text.specs.Certificates.{IsNewRow}
use Rattle.cert_text.specs.CertLines.{is_colon, numbered_row, known_row}
use Rattle.cert_text.specs.Printed.{list_text}
use Rattle.cert_text.specs.Rows.{row_variants}
use Rattle.text_laws.specs.CertLaws.{IsSpelled, known_text}
use Rattle.text_laws.proofs.RowAgain.{row_is_read_again}

-- ---- a cut behind bytes that do not pass

module _ (p : ℕ → Bool) (s : ℕ) (is : p s ≡ true) (rest : List ℕ) where
  before-again : (xs : List ℕ) → list_any p xs ≡ false → before p (xs ++ s ∷ rest) ≡ xs
  before-again [] none = rw is refl
  before-again (x ∷ xs) none =
      let both = or_parts (p x) (list_any p xs) none in
      rw both.0 (ap (λ ys. x ∷ ys) (before-again xs both.1))

  after-again : (xs : List ℕ) → list_any p xs ≡ false → after p (xs ++ s ∷ rest) ≡ rest
  after-again [] none = rw is refl
  after-again (x ∷ xs) none =
      let both = or_parts (p x) (list_any p xs) none in
      rw both.0 (after-again xs both.1)

  any-again : (xs : List ℕ) → list_any p xs ≡ false → list_any p (xs ++ s ∷ rest) ≡ true
  any-again [] none = rw is refl
  any-again (x ∷ xs) none =
      let both = or_parts (p x) (list_any p xs) none in
      rw both.0 (any-again xs both.1)

-- a run does not begin with a blank
run-first : (w rest : List ℕ) → is_run w ≡ true → first_is is_blank (w ++ rest) ≡ false
run-first [] rest run = absurd (true≢false (sym run))
run-first (b ∷ bs) rest run =
    not-true (is_blank b)
    (and_parts (is_solid b) (list_all is_solid bs) (run-parts (b ∷ bs) run).1).0

module _ (u : Universe) (spelled : IsSpelled u) (row : List ℕ) (new : IsNewRow u row)
    (number : ℕ) (small : number < 10 ^ 15) where
  abbrev vs : List ℕ
  vs = list_text u (row_variants u row)

  digits : list_all is_digit (decimal number) ≡ true
  digits =
      (and_parts (not (is_nil (decimal number)) && _) (list_all is_digit (decimal number))
      (number-again number small)).1

  no-colon : list_any is_colon (decimal number) ≡ false
  no-colon = none-other is_digit 58 refl (decimal number) digits

  numbered-again : numbered_row u number (decimal number ++ 58 ∷ vs) ≡ Some row
  unfolding numbered_row
  numbered-again =
      rw (
        any-again is_colon 58 refl vs (decimal number) no-colon,
        before-again is_colon 58 refl vs (decimal number) no-colon,
        after-again is_colon 58 refl vs (decimal number) no-colon,
        number-again number small,
        value-again number small,
        eq-eqb number number refl,
      ) (row_is_read_again u row spelled new)

  module _ (name : List ℕ) (run : is_run name ≡ true) where
    abbrev number_part : List ℕ
    number_part = decimal number ++ 58 ∷ vs

    line-bytes : known_text u name number row
        ≡ codes "known" ++ 32 ∷ (name ++ 32 ∷ number_part)
    line-bytes =
        append_assoc (codes "known " ++ name ++ codes " " ++ decimal number) (codes ":") vs
        ∙ append_assoc (codes "known " ++ name ++ codes " ") (decimal number) (58 ∷ vs)
        ∙ append_assoc (codes "known " ++ name) (codes " ") number_part
        ∙ append_assoc (codes "known ") name (32 ∷ number_part)

    pub known-again : known_row u name number (known_text u name number row) ≡ Some row
    unfolding known_row
    known-again =
        let solid = (run-parts name run).1 in
        let digit_run = number-run (decimal number) (number-again number small) in
        ap (known_row u name number) line-bytes
        ∙ rw (
          behind-again is_blank [] (name ++ 32 ∷ number_part) refl
              (run-first name (32 ∷ number_part) run),
          front-again is_solid name (32 ∷ number_part) solid refl,
          behind-again is_solid name (32 ∷ number_part) solid refl,
          bytes-self name,
          behind-again is_blank [] number_part refl
              (run-first (decimal number) (58 ∷ vs) digit_run),
        ) numbered-again
