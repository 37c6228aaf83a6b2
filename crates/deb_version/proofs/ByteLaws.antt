-- The bytes that a version may have.
use Rattle.std.proofs.Common.{◌≡◌, ℕ, Bool, true, false, not, ◌||◌, ◌==◌, List, refl, sym, inl, inr, Result, Err, if◌then◌else◌, true≢false}
use Rattle.std.proofs.lemmas.Bool.{cases_Bool, or_parts, not-false, eqb-true}
use Rattle.std.specs.List.{list_any, list_all}
use Rattle.std.specs.Option.{option_map_or, is_some}
use Rattle.std.specs.Prelude.{nat_lt, length}
use Rattle.std.specs.Result.{is_ok}
use Rattle.deb_text.specs.Common.{is_digit, before, before_last, after_last}
use Rattle.deb_text.proofs.TestLaws.{all-weaker, all-cut, all-cut_last}
use Rattle.deb_version.specs.declared.grammar.TheConstants.{MAX_LENGTH}
use Rattle.deb_version.specs.Grammar.{is_colon, is_hyphen, epoch_of, rest_of, upstream_of, revision_at, pieces_of, has_empty_piece, is_revision_byte, is_upstream_byte, has_bad_byte, parts_of, version_at}

-- a byte that stands in some version
abbrev pub is_text_byte : ℕ → Bool
is_text_byte = is_upstream_byte true

upstream-text : (has : Bool) (b : ℕ) → is_upstream_byte has b ≡ true → is_text_byte b ≡ true
upstream-text true b is = is
upstream-text false b is = go (is_revision_byte b || b == 45) is where
  go : (t : Bool) → (t || false) ≡ true → (t || b == 58) ≡ true
  go true is = refl
  go false is = absurd (true≢false (sym is))

revision-text : (b : ℕ) → is_revision_byte b ≡ true → is_text_byte b ≡ true
revision-text b is = rw is refl

digit-text : (b : ℕ) → is_digit b ≡ true → is_text_byte b ≡ true
digit-text b is = rw is refl

colon-text : (b : ℕ) → is_colon b ≡ true → is_text_byte b ≡ true
colon-text b is = rw (eqb-true b 58 is) refl

hyphen-text : (b : ℕ) → is_hyphen b ≡ true → is_text_byte b ≡ true
hyphen-text b is = rw (eqb-true b 45 is) refl

-- what is read has none of the faults that are looked for first
else-ok : {X F : Type 0} (b : Bool) (e : F) (r : Result X F) → is_ok (if b then Err e else r) ≡ true
    → (b ≡ false) × (is_ok r ≡ true)
else-ok true e r is = absurd (true≢false (sym is))
else-ok false e r is = (refl, is)

rest-text : (has : Bool) (rest : List ℕ)
    → list_all (is_upstream_byte has) (upstream_of rest) ≡ true
    → option_map_or (λ revision. not (list_all is_revision_byte revision)) (revision_at rest) false
    ≡ false
    → list_all is_text_byte rest ≡ true
rest-text has rest upstream revision =
    elim (cases_Bool (list_any is_hyphen rest)) [
      | inl some ↦ all-cut_last is_hyphen is_text_byte hyphen-text rest
          (all-weaker (is_upstream_byte has) is_text_byte (upstream-text has)
          (before_last is_hyphen rest) (rw some at upstream))
          (all-weaker is_revision_byte is_text_byte revision-text (after_last is_hyphen rest)
          (not-false _ (rw some at revision)))
      | inr none ↦ all-weaker (is_upstream_byte has) is_text_byte (upstream-text has) rest
          (rw none at upstream)
    ]

whole-text : (text : List ℕ)
    → option_map_or (λ epoch. not (list_all is_digit epoch)) (epoch_of text) false ≡ false
    → list_all is_text_byte (rest_of text) ≡ true → list_all is_text_byte text ≡ true
whole-text text epoch rest =
    elim (cases_Bool (list_any is_colon text)) [
      | inl some ↦ all-cut is_colon is_text_byte colon-text text
          (all-weaker is_digit is_text_byte digit-text (before is_colon text)
          (not-false _ (rw some at epoch)))
          (rw some at rest)
      | inr none ↦ rw none at rest
    ]

-- a text that is a version has no other bytes
pub version-bytes : (text : List ℕ) → is_ok (version_at text) ≡ true
    → list_all is_text_byte text ≡ true
unfolding version_at
version-bytes text is =
    let pieces = pieces_of text in
    let short = else-ok (nat_lt MAX_LENGTH (length text)) _ (parts_of pieces) is in
    let full = else-ok (has_empty_piece pieces) _ _ short.1 in
    let fine = else-ok (has_bad_byte pieces) _ _ full.1 in
    let two = or_parts _ _ fine.0 in
    let three = or_parts _ _ two.0 in
    whole-text text three.0
    (rest-text (is_some pieces.epoch) (rest_of text) (not-false _ three.1) two.1)
