-- Words that lend their texts.
use Rattle.std.proofs.Common.{◌≡◌, ◌==◌, ℕ, Bool, true, List, [], ◌∷◌, get_or, map, refl, ap, ◌∙◌}
use Rattle.std.proofs.lemmas.List.Sums.{AllPass-from_list_all}
use Rattle.std.specs.Borrow.{Bor}
use Rattle.std.specs.Prelude.{◌||◌}
use Rattle.std.specs.List.{ends_with, list_all, list_any}
use Rattle.std.specs.Str.{bytes_eq}
use Rattle.command_line.specs.Words.{EndWords, EndsWord, IsWord}

pub any-map : {W X : Type 0} (f : W → X) (test : X → Bool) (ws : List W)
    → list_any test (map f ws) ≡ list_any (λ w. test (f w)) ws
any-map f test [] = refl
any-map f test (w ∷ ws) = ap (λ b. test (f w) || b) (any-map f test ws)

module _ {W : Type 0} (text_of : W → List ℕ) (words : List W) (text : List ℕ) where
  pub is-word : list_any (λ w. bytes_eq (text_of w) text) words ≡ true
      → IsWord (map text_of words) text
  is-word h = any-map text_of (λ word. bytes_eq word text) words ∙ h

  pub ends-word : list_any (λ w. ends_with (λ a b. a == b) (text_of w) text) words ≡ true
      → EndsWord (map text_of words) text
  ends-word h = any-map text_of (λ word. ends_with (λ a b. a == b) word text) words ∙ h

-- each text that ends a word that lends its text ends one of the texts
pub end-words : {W : Type 0} (text_of : W → List ℕ) (words : List W) (names : List (Bor (List ℕ)))
    → list_all (λ name. list_any (λ w. ends_with (λ a b. a == b) (text_of w) name.now) words) names
    ≡ true
    → EndWords (map text_of words) names
end-words text_of words names h k d below =
    ends-word text_of words (get_or names k d).now
    (AllPass-from_list_all
    (λ (name : Bor (List ℕ)). list_any (λ w. ends_with (λ a b. a == b) (text_of w) name.now) words)
    names h k d below)
