-- Sets of words, one size after the other.
use Rattle.std.proofs.Common.{◌≡◌, ℕ, zero, suc, ◌+◌, ◌-◌, ◌<◌, ◌≤◌, List, [], ◌∷◌, ◌++◌, length, get_or, drop, refl, sym, ap, ◌∙◌, append_assoc, add-one, arith, map}
use Rattle.std.proofs.lemmas.List.{append-nil, at_drop_more, drop_all, map-append, map-id}
use Rattle.stage_builds.specs.Profiles.{few_sets, sets_below, sets_of_size}

module _ {X : Type 0} where
  -- the sets of a first word, and those without it
  pub sets-cons : (size : ℕ) (word : X) (words : List X) → 0 < size
      → sets_of_size size (word ∷ words)
      ≡ map (λ set. word ∷ set) (sets_of_size (size - 1) words) ++ sets_of_size size words
  sets-cons zero word words lt = absurd (omega arith)
  sets-cons (suc size) word words lt =
      let e : suc size - 1 ≡ size = omega arith in
      rw e refl

  pub sets-nil : (size : ℕ) → 0 < size → sets_of_size {X = X} size [] ≡ []
  sets-nil zero lt = absurd (omega arith)
  sets-nil (suc size) lt = refl

  -- where no word is left there is no set of some
  pub sets-end : {R : Type 0} (text : R → X) (size : ℕ) (front : List X) (words : List R) (i : ℕ)
      (old : List (List X)) → 0 < size → length words ≤ i
      → old ≡ old ++ map (λ set. front ++ set) (sets_of_size size (map text (drop i words)))
  sets-end text size front words i old some past =
      sym (ap (λ ws. old ++ map (λ set. front ++ set) (sets_of_size size (map text ws)))
      (drop_all i words past)
      ∙ ap (λ sets. old ++ map (λ set. front ++ set) sets) (sets-nil size some)
      ∙ append-nil old)

  behind : (front : List X) (word : X) (sets : List (List X))
      → map (λ set. (front ++ word ∷ []) ++ set) sets
      ≡ map (λ set. front ++ set) (map (λ set. word ∷ set) sets)
  behind front word [] = refl
  behind front word (set ∷ sets) = rw (append_assoc front (word ∷ []) set, behind front word sets) refl

  -- first those with the word, behind the front and it, then those without it
  pub sets-more : (size : ℕ) (front : List X) (word : X) (words : List X)
      (old one two : List (List X)) → 0 < size
      → one ≡ old ++ map (λ set. (front ++ word ∷ []) ++ set) (sets_of_size (size - 1) words)
      → two ≡ one ++ map (λ set. front ++ set) (sets_of_size size words)
      → two ≡ old ++ map (λ set. front ++ set) (sets_of_size size (word ∷ words))
  sets-more size front word words old one two lt first second =
      let with_it = sets_of_size (size - 1) words in
      let without_it = sets_of_size size words in
      second
      ∙ ap (λ sets. sets ++ map (λ set. front ++ set) without_it)
      (first ∙ ap (λ sets. old ++ sets) (behind front word with_it))
      ∙ append_assoc old (map (λ set. front ++ set) (map (λ set. word ∷ set) with_it))
      (map (λ set. front ++ set) without_it)
      ∙ ap (λ sets. old ++ sets)
      (sym (ap (map (λ set. front ++ set)) (sets-cons size word words lt)
      ∙ map-append (λ set. front ++ set) (map (λ set. word ∷ set) with_it) without_it))

  -- those of a size behind those of the sizes below
  pub below-more : (size : ℕ) (words : List X) (old so_far new : List (List X))
      → so_far ≡ old ++ sets_below size words
      → new ≡ so_far ++ map (λ set. [] ++ set) (sets_of_size size words)
      → new ≡ old ++ sets_below (size + 1) words
  below-more size words old so_far new before step =
      step
      ∙ ap (λ sets. so_far ++ sets) (map-id (sets_of_size size words))
      ∙ ap (λ sets. sets ++ sets_of_size size words) before
      ∙ append_assoc old (sets_below size words) (sets_of_size size words)
      ∙ ap (λ sets. old ++ sets) (rw (add-one size) refl)

  -- a word and those behind it, as references have them
  pub cut-at : {R : Type 0} (text : R → X) (words : List R) (i : ℕ) (d : R) → i < length words
      → text (get_or words i d) ∷ map text (drop (i + 1) words) ≡ map text (drop i words)
  cut-at text words i d lt = sym (ap (map text) (at_drop_more (λ ws. ws) words i d lt))

  singles : {R : Type 0} (text : R → X) (words : List R)
      → map (λ word. text word ∷ []) words ≡ map (λ word. word ∷ []) (map text words)
  singles text [] = refl
  singles text (word ∷ words) = rw (singles text words) refl

  -- none of some words, each alone, and all
  pub few-all : {R : Type 0} (text : R → X) (words left : List R) (old begun so_far new : List (List X))
      → left ≡ [] → begun ≡ old ++ [] ∷ []
      → so_far ++ map (λ word. text word ∷ []) left ≡ begun ++ map (λ word. text word ∷ []) words
      → new ≡ so_far ++ map text words ∷ []
      → new ≡ old ++ few_sets (map text words)
  few-all text words left old begun so_far new none begin done last =
      let alone = map (λ word. word ∷ []) (map text words) in
      last
      ∙ ap (λ sets. sets ++ map text words ∷ [])
      (sym (append-nil so_far)
      ∙ ap (λ ws. so_far ++ map (λ word. text word ∷ []) ws) (sym none)
      ∙ done
      ∙ ap (λ sets. sets ++ map (λ word. text word ∷ []) words) begin
      ∙ ap (λ sets. (old ++ [] ∷ []) ++ sets) (singles text words))
      ∙ append_assoc (old ++ [] ∷ []) alone (map text words ∷ [])
      ∙ append_assoc old ([] ∷ []) (alone ++ map text words ∷ [])
