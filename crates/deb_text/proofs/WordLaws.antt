-- The first word of a text, and the words behind it.
use Rattle.std.proofs.Common.{◌≡◌, ℕ, Bool, false, not, List, [], ◌∷◌, refl, sym, ◌∙◌, inl, inr, filter, length, ◌<◌, arith}
use Rattle.std.proofs.lemmas.List.{nil_from_length}
use Rattle.std.proofs.lemmas.Bool.{cases_Bool}
use Rattle.std.specs.List.{slice_split}
use Rattle.deb_text.specs.Bytes.{is_blank, is_solid}
use Rattle.deb_text.specs.Cuts.{is_nil, front, behind}
use Rattle.deb_text.specs.Words.{words}
use Rattle.deb_text.proofs.CutLaws.{behind_shorter}

abbrev some : List ℕ → Bool
some word = not (is_nil word)

words-is : (text : List ℕ) → words text ≡ filter some (slice_split is_blank text)
unfolding words
words-is text = refl

-- blanks in front make no word
pub words-blank : (text : List ℕ) → words (behind is_blank text) ≡ words text
unfolding words
words-blank [] = refl
words-blank (b ∷ bs) =
    elim (cases_Bool (is_blank b)) [
      | inl is ↦ rw is (words-blank bs)
      | inr is ↦ simp is refl
    ]

split_tail : List ℕ → List (List ℕ)
split_tail [] = []
split_tail (b ∷ bs) = slice_split is_blank bs

split-front : (text : List ℕ)
    → slice_split is_blank text ≡ front is_solid text ∷ split_tail (behind is_solid text)
unfolding split_tail
split-front [] = refl
split-front (b ∷ bs) =
    elim (cases_Bool (is_blank b)) [
      | inl is ↦ rw is refl
      | inr is ↦ rw (is, split-front bs) refl
    ]

tail-words : (text : List ℕ)
    → filter some (split_tail (behind is_solid text)) ≡ words (behind is_solid text)
unfolding split_tail words
tail-words [] = refl
tail-words (b ∷ bs) =
    elim (cases_Bool (is_blank b)) [
      | inl is ↦ simp is refl
      | inr is ↦ rw is (tail-words bs)
    ]

-- a text that begins with no blank begins with a word
pub words-cons : (b : ℕ) (bs : List ℕ) → is_blank b ≡ false
    → words (b ∷ bs) ≡ front is_solid (b ∷ bs) ∷ words (behind is_solid (b ∷ bs))
words-cons b bs is =
    words-is (b ∷ bs) ∙ rw (split-front (b ∷ bs)) (rw (← tail-words (b ∷ bs)) (simp is refl))

pub words-nil : words [] ≡ []
unfolding words
words-nil = refl

pub word_first : (text : List ℕ) → (length (behind is_blank text) ≡ 0 → ⊥)
    → words text
    ≡ front is_solid (behind is_blank text) ∷ words (behind is_solid (behind is_blank text))
word_first [] left = absurd (left refl)
word_first (b ∷ bs) left =
    elim (cases_Bool (is_blank b)) [
      | inl is ↦
          rw (← words-blank (b ∷ bs)) (rw is (words-blank bs ∙ word_first bs (rw is at left)))
      | inr is ↦ rw is (words-cons b bs is)
    ]

pub word_none : (text : List ℕ) → length (behind is_blank text) ≡ 0 → words text ≡ []
word_none text none =
    sym (words-blank text) ∙ rw (nil_from_length (behind is_blank text) none) words-nil

pub word_shorter : (text : List ℕ) → (length (behind is_blank text) ≡ 0 → ⊥)
    → length (behind is_solid (behind is_blank text)) < length text
word_shorter [] left = absurd (left refl)
word_shorter (b ∷ bs) left =
    elim (cases_Bool (is_blank b)) [
      | inl is ↦ rw is (omega (arith, word_shorter bs (rw is at left)))
      | inr is ↦ simp is (omega (arith, behind_shorter is_solid bs))
    ]
