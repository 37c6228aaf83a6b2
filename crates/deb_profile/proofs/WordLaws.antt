-- What is read of a list of words, by whether each of them may stand.
use Rattle.std.proofs.Common.{◌≡◌, ℕ, Bool, true, false, ◌&&◌, if◌then◌else◌, List, [], ◌∷◌, Ok, Err, refl, ap}
use Rattle.std.specs.List.{list_all}
use Rattle.deb_text.specs.Common.{then_all, traverse, is_word, words}
use Rattle.deb_relation.specs.declared.error.TheConstants.{BAD_WORD}
use Rattle.deb_profile.specs.WordList.{word_at}

pub words-read : (ws : List (List ℕ)) → list_all is_word ws ≡ true → traverse word_at ws ≡ Ok ws
unfolding traverse
words-read [] all = refl
words-read (w ∷ ws) all = by (is_word w) (words-read ws) all where
  by : (b : Bool) → (list_all is_word ws ≡ true → traverse word_at ws ≡ Ok ws)
      → (b && list_all is_word ws) ≡ true
      → then_all (if b then Ok w else Err BAD_WORD) (traverse word_at ws) ≡ Ok (w ∷ ws)
  by true rest h = ap (then_all (Ok w)) (rest h)
  by false rest h = absurd cc

pub words-refused : (ws : List (List ℕ)) → list_all is_word ws ≡ false
    → traverse word_at ws ≡ Err BAD_WORD
unfolding traverse
words-refused [] some = absurd cc
words-refused (w ∷ ws) some = by (is_word w) (words-refused ws) some where
  by : (b : Bool) → (list_all is_word ws ≡ false → traverse word_at ws ≡ Err BAD_WORD)
      → (b && list_all is_word ws) ≡ false
      → then_all (if b then Ok w else Err BAD_WORD) (traverse word_at ws) ≡ Err BAD_WORD
  by true rest h = ap (then_all (Ok w)) (rest h)
  by false rest h = refl

pub no-words : words [] ≡ []
unfolding words
no-words = refl
