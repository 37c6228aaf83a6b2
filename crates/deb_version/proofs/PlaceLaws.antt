-- The pieces of a text, by their places.
use Rattle.std.proofs.Common.{◌≡◌, ℕ, ◌+◌, ◌-◌, ◌<◌, ◌≤◌, Bool, true, false, not, ◌||◌, ◌&&◌, List, [], ◌∷◌, length, take, drop, None, codes, unwrap_or, add-one, refl, sym, ap, ◌∙◌, arith, length-drop, drop-drop, inl, inr, Result, Ok, true≢false}
use Rattle.std.specs.Prelude.{nat_lt, Option, Some, MatchOption}
use Rattle.std.specs.List.{list_any, slice_range}
use Rattle.std.proofs.lemmas.Bool.{cases_Bool, ltb-false}
use Rattle.std.proofs.lemmas.List.{take_all}
use Rattle.deb_text.specs.Cuts.{before, after, before_last, after_last, is_last}
use Rattle.std.specs.Result.{is_ok, result_unwrap_or}
use Rattle.deb_version.specs.declared.grammar.TheConstants.{MAX_LENGTH, MAX_EPOCH}
use Rattle.deb_version.specs.Grammar.{epoch_number, has_bad_byte, has_empty_piece, is_colon, is_hyphen, parts_at, parts_with, pieces_of, rest_of, upstream_of, version_at}
use Rattle.deb_version.specs.Order.{Parts, revision_of}
use Rattle.deb_version.specs.Places.{IsVersion, start_of, end_of}

module _ {X : Type 0} (p : X → Bool) where
  before-shorter : (xs : List X) → list_any p xs ≡ true → length (before p xs) < length xs
  before-shorter [] some = absurd cc
  before-shorter (x ∷ xs) some =
      elim (cases_Bool (p x)) [
        | inl is ↦ rw is (omega arith)
        | inr is ↦ rw is (omega (arith, before-shorter xs (rw is at some)))
      ]

  drop-first : (xs : List X) → list_any p xs ≡ true
      → drop (length (before p xs) + 1) xs ≡ after p xs
  drop-first [] some = absurd cc
  drop-first (x ∷ xs) some =
      elim (cases_Bool (p x)) [
        | inl is ↦ rw is refl
        | inr is ↦ rw (is, add-one) (rw add-one at (drop-first xs (rw is at some)))
      ]

  take-last : (xs : List X) → take (length (before_last p xs)) xs ≡ before_last p xs
  take-last [] = refl
  take-last (x ∷ xs) =
      elim (cases_Bool (is_last p x xs)) [
        | inl is ↦ rw is refl
        | inr is ↦ rw is (ap (λ ys. x ∷ ys) (take-last xs))
      ]

  last-either : (x : X) (xs : List X) → list_any p (x ∷ xs) ≡ true → is_last p x xs ≡ false
      → list_any p xs ≡ true
  last-either x xs some is = by (p x) (list_any p xs) some is where
    by : (a b : Bool) → (a || b) ≡ true → (a && not b) ≡ false → b ≡ true
    by a true some is = refl
    by true false some is = absurd cc
    by false false some is = absurd cc

  drop-last : (xs : List X) → list_any p xs ≡ true
      → drop (length (before_last p xs) + 1) xs ≡ after_last p xs
  drop-last [] some = absurd cc
  drop-last (x ∷ xs) some =
      elim (cases_Bool (is_last p x xs)) [
        | inl is ↦ rw is refl
        | inr is ↦ rw (is, add-one) (rw add-one at (drop-last xs (last-either x xs some is)))
      ]

  last-shorter : (xs : List X) → list_any p xs ≡ true → length (before_last p xs) < length xs
  last-shorter [] some = absurd cc
  last-shorter (x ∷ xs) some =
      elim (cases_Bool (is_last p x xs)) [
        | inl is ↦ rw is (omega arith)
        | inr is ↦ rw is (omega (arith, last-shorter xs (last-either x xs some is)))
      ]

module _ (text : List ℕ) where
  abbrev start : ℕ
  start = start_of (pieces_of text)

  -- what stands behind the epoch's colon
  rest-at : drop start text ≡ rest_of text
  rest-at =
      elim (cases_Bool (list_any is_colon text)) [
        | inl is ↦ rw is (drop-first is_colon text is)
        | inr is ↦ rw is refl
      ]

  pub start-within : start ≤ length text
  start-within =
      elim (cases_Bool (list_any is_colon text)) [
        | inl is ↦ rw is (omega (arith, before-shorter is_colon text is))
        | inr is ↦ rw is (omega arith)
      ]

  length-rest : length text ≡ start + length (rest_of text)
  length-rest = omega (arith, start-within, length-drop start text, ap length rest-at)

  upstream-shorter : length (upstream_of (rest_of text)) ≤ length (rest_of text)
  upstream-shorter =
      elim (cases_Bool (list_any is_hyphen (rest_of text))) [
        | inl is ↦ rw is (omega (arith, last-shorter is_hyphen (rest_of text) is))
        | inr is ↦ rw is (omega arith)
      ]

  take-upstream : (rest : List ℕ) → take (length (upstream_of rest)) rest ≡ upstream_of rest
  take-upstream rest =
      elim (cases_Bool (list_any is_hyphen rest)) [
        | inl is ↦ rw is (take-last is_hyphen rest)
        | inr is ↦ rw is (take_all (length rest) rest (omega arith))
      ]

  pub end-within : end_of (pieces_of text) ≤ length text
  end-within = omega (arith, length-rest, upstream-shorter)

  -- the upstream stands from its start to its end
  pub upstream-at : slice_range text start (end_of (pieces_of text)) ≡ (pieces_of text).upstream
  upstream-at =
      let long : end_of (pieces_of text) - start ≡ length (upstream_of (rest_of text)) =
      omega arith in
      rw (long, rest-at) (take-upstream (rest_of text))

  -- the revision stands behind the hyphen that is there
  pub revision-at : end_of (pieces_of text) < length text
      → drop (end_of (pieces_of text) + 1) text ≡ unwrap_or (pieces_of text).revision (codes "0")
  revision-at lt =
      let rest = rest_of text in
      let long = length (before_last is_hyphen rest) in
      let behind : start + long + 1 ≡ start + (long + 1) = omega arith in
      elim (cases_Bool (list_any is_hyphen rest)) [
        | inl is ↦ rw is
            (ap (λ (n : ℕ). drop n text) behind ∙ sym (drop-drop (long + 1) start text)
            ∙ ap (drop (long + 1)) rest-at ∙ drop-last is_hyphen rest is)
        | inr is ↦ absurd (omega (arith, length-rest, rw is at lt))
      ]

  pub revision-none : length text ≤ end_of (pieces_of text)
      → codes "0" ≡ unwrap_or (pieces_of text).revision (codes "0")
  revision-none le =
      let rest = rest_of text in
      elim (cases_Bool (list_any is_hyphen rest)) [
        | inl is ↦ absurd (omega (arith, length-rest, last-shorter is_hyphen rest is, rw is at le))
        | inr is ↦ rw is refl
      ]

-- what is known of the pieces of a text that is a version
pub record Known (text : List ℕ) : Type 0 where
  pub short : length text ≤ MAX_LENGTH
  pub bytes : has_bad_byte (pieces_of text) ≡ false
  pub small : nat_lt MAX_EPOCH (epoch_number (pieces_of text)) ≡ false
  pub parts : version_at text ≡ Ok (parts_with (epoch_number (pieces_of text)) (pieces_of text))

pub known-pieces : (text : List ℕ) → is_ok (version_at text) ≡ true → Known text
unfolding version_at
known-pieces text is =
    let pieces = pieces_of text in
    elim (cases_Bool (nat_lt MAX_LENGTH (length text))) [
      | inl long ↦ absurd (true≢false (sym (rw long at is)))
      | inr short ↦ elim (cases_Bool (has_empty_piece pieces)) [
        | inl empty ↦ absurd (true≢false (sym (rw (short, empty) at is)))
        | inr some ↦ elim (cases_Bool (has_bad_byte pieces)) [
          | inl bad ↦ absurd (true≢false (sym (rw (short, some, bad) at is)))
          | inr good ↦ elim (cases_Bool (nat_lt MAX_EPOCH (epoch_number pieces))) [
            | inl large ↦ absurd (true≢false (sym (rw (short, some, good, large) at is)))
            | inr small ↦ record {
              short = ltb-false MAX_LENGTH (length text) short;
              bytes = good;
              small = small;
              parts = rw (short, some, good, small) refl;
            }
          ]
        ]
      ]
    ]

-- the epoch that was read, where it is not too large
pub known-epoch : (read : Option ℕ) (epoch : ℕ)
    → MatchOption read (nat_lt MAX_EPOCH epoch ≡ true)
    (λ n. (nat_lt MAX_EPOCH epoch ≡ false) × (n ≡ epoch))
    → nat_lt MAX_EPOCH epoch ≡ false → unwrap_or read 0 ≡ epoch
known-epoch None epoch is small = absurd (true≢false (sym is ∙ small))
known-epoch (Some n) epoch is small = is.1

-- the parts of a version are its pieces
module _ (text : List ℕ) (epoch start end : ℕ) (version : IsVersion text epoch start end) where
  parts-are : parts_at text ≡ parts_with epoch (pieces_of text)
  parts-are =
      ap (λ (r : Result Parts ℕ).
      result_unwrap_or r (record { epoch = 0; upstream = []; revision = None })) version.parts

  pub end-fits : end ≤ length text
  end-fits = rw version.ends (end-within text)

  pub ascends : start ≤ end
  ascends = rw (version.begins, version.ends) (omega arith)

  pub is-upstream : slice_range text start end ≡ (parts_at text).upstream
  is-upstream =
      rw (version.begins, version.ends) (upstream-at text) ∙ sym (ap (λ p. p.upstream) parts-are)

  pub is-revision : end < length text → drop (end + 1) text ≡ revision_of (parts_at text)
  is-revision lt =
      rw version.ends (revision-at text (rw version.ends at lt)) ∙ sym (ap revision_of parts-are)

  pub is-zero : length text ≤ end → codes "0" ≡ revision_of (parts_at text)
  is-zero le = revision-none text (rw version.ends at le) ∙ sym (ap revision_of parts-are)
