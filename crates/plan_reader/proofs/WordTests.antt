-- The words of a text, tested byte by byte.
use Rattle.std.proofs.Common.{◌≡◌, ℕ, ◌||◌, ◌&&◌, Bool, not, List, [], ◌∷◌, filter, refl, ◌∙◌, inl, inr}
use Rattle.std.specs.List.{list_all, list_any, slice_split, onto_first}
use Rattle.std.proofs.Math.Bool.{or-true, or-false}
use Rattle.std.proofs.lemmas.Bool.{cases_Bool}
use Rattle.deb_text.specs.Common.{is_blank, is_word_byte, is_nil, words, is_word}

module _ (w s : ℕ → Bool) where
  -- a byte in front of the first part
  onto-all : (b : ℕ) (ps : List (List ℕ))
      → list_all (list_all w) (onto_first b ps) ≡ (w b && list_all (list_all w) ps)
  onto-all b [] =
      elim (cases_Bool (w b)) [
        | inl is ↦ rw is refl
        | inr is ↦ rw is refl
      ]
  onto-all b (p ∷ ps) =
      elim (cases_Bool (w b)) [
        | inl is ↦ rw is refl
        | inr is ↦ rw is refl
      ]

  -- the parts between separators have bytes that pass, where each byte passes or separates
  parts-all : (text : List ℕ)
      → list_all (list_all w) (slice_split s text) ≡ list_all (λ b. w b || s b) text
  parts-all [] = refl
  parts-all (b ∷ bs) =
      elim (cases_Bool (s b)) [
        | inl is ↦ rw (is, or-true (w b)) (parts-all bs)
        | inr is ↦ rw (is, or-false (w b), onto-all b (slice_split s bs), parts-all bs) refl
      ]

-- all elements pass, or some does not
all-none : (p : ℕ → Bool) (xs : List ℕ) → list_all p xs ≡ not (list_any (λ x. not (p x)) xs)
all-none p [] = refl
all-none p (x ∷ xs) =
    elim (cases_Bool (p x)) [
      | inl is ↦ rw is (all-none p xs)
      | inr is ↦ rw is refl
    ]

-- a part without a byte is no word, and is left out
some-words : (ps : List (List ℕ))
    → list_all is_word (filter (λ p. not (is_nil p)) ps) ≡ list_all (list_all is_word_byte) ps
some-words [] = refl
some-words ([] ∷ ps) = some-words ps
some-words ((b ∷ bs) ∷ ps) = rw (some-words ps) refl

pub words_all : (text : List ℕ)
    → list_all is_word (words text) ≡ not (list_any (λ b. not (is_word_byte b || is_blank b)) text)
unfolding words
words_all text =
    some-words (slice_split is_blank text) ∙ parts-all is_word_byte is_blank text
    ∙ all-none (λ b. is_word_byte b || is_blank b) text
