-- The words of a file of lanes, read line by line.
use Rattle.std.proofs.Common.{◌≡◌, ℕ, ◌+◌, List, [], ◌∷◌, ◌++◌, Option, Result, Ok, Err, refl, sym, ap, ◌∙◌}
use Rattle.std.proofs.lemmas.List.{append-nil}
use Rattle.deb_text.proofs.StepLaws.{fails-with, with_front-push}
use Rattle.deb_text.specs.Common.{Fails, lines_of, then_all, traverse, with_front, words}
use Rattle.plan_model.specs.Plan.{Plan}
use Rattle.farm_answers.specs.Turns.{PlacedWord, placed_from, turn_of, words_from, words_in}

-- ---- items that are read, and others behind them

module _ {A B F : Type 0} (f : A → Result B F) where
  pub front-goes : (done next : List B) (xs ys : List A)
      → with_front done (traverse f xs) ≡ Ok next
      → with_front done (traverse f (xs ++ ys)) ≡ with_front next (traverse f ys)
  unfolding traverse
  front-goes done next [] ys is =
      let same : done ++ [] ≡ next = cc in
      ap (λ front. with_front front (traverse f ys)) (sym (append-nil done) ∙ same)
  front-goes done next (x ∷ xs) ys is =
      go (f x) (λ more. front-goes more next xs ys) is where
        go : (read : Result B F)
            → ((more : List B) → with_front more (traverse f xs) ≡ Ok next
            → with_front more (traverse f (xs ++ ys)) ≡ with_front next (traverse f ys))
            → with_front done (then_all read (traverse f xs)) ≡ Ok next
            → with_front done (then_all read (traverse f (xs ++ ys)))
            ≡ with_front next (traverse f ys)
        go (Ok y) later is =
            with_front-push f done y (traverse f (xs ++ ys))
            ∙ later (done ++ y ∷ []) (sym (with_front-push f done y (traverse f xs)) ∙ is)
        go (Err e) later is = absurd cc

  pub front-fails : (done : List B) (e : F) (xs ys : List A)
      → with_front done (traverse f xs) ≡ Err e → with_front done (traverse f (xs ++ ys)) ≡ Err e
  unfolding traverse
  front-fails done e [] ys is = absurd cc
  front-fails done e (x ∷ xs) ys is =
      go (f x) (λ more. front-fails more e xs ys) is where
        go : (read : Result B F)
            → ((more : List B) → with_front more (traverse f xs) ≡ Err e
            → with_front more (traverse f (xs ++ ys)) ≡ Err e)
            → with_front done (then_all read (traverse f xs)) ≡ Err e
            → with_front done (then_all read (traverse f (xs ++ ys))) ≡ Err e
        go (Ok y) later is =
            with_front-push f done y (traverse f (xs ++ ys))
            ∙ later (done ++ y ∷ []) (sym (with_front-push f done y (traverse f xs)) ∙ is)
        go (Err d) later is = let same : d ≡ e = cc in ap Err same

-- ---- a loop over lines

module _ (p : Plan) where
  -- the words of a line, put behind those that are done
  abbrev pub line_turns : List ℕ → ℕ → List ℕ → Result (List ℕ) PlacedWord
  line_turns done line text =
      with_front done (traverse (turn_of p) (placed_from line 1 (words text)))

  -- those of lines
  abbrev pub all_turns : List ℕ → ℕ → List (List ℕ) → Result (List ℕ) PlacedWord
  all_turns done line ls = with_front done (traverse (turn_of p) (words_from line ls))

  pub nothing-before : (text : List ℕ)
      → all_turns [] 1 (lines_of text) ≡ traverse (turn_of p) (words_in text)
  nothing-before text = by (traverse (turn_of p) (words_in text)) where
    by : (read : Result (List ℕ) PlacedWord) → with_front [] read ≡ read
    by (Ok turns) = refl
    by (Err word) = refl

  pub lines-go : (done next : List ℕ) (line : ℕ) (text : List ℕ) (ls all : List (List ℕ))
      (total : Result (List ℕ) PlacedWord)
      → all ≡ text ∷ ls → line_turns done line text ≡ Ok next → all_turns done line all ≡ total
      → all_turns next (line + 1) ls ≡ total
  lines-go done next line text ls all total cut is so_far =
      sym (front-goes (turn_of p) done next (placed_from line 1 (words text))
      (words_from (line + 1) ls) is) ∙ (rw cut at so_far)

  pub lines-stop : {E : Type 0} (refusal : E → Option PlacedWord) (e : E) (done : List ℕ) (line : ℕ)
      (text : List ℕ) (ls all : List (List ℕ)) (total : Result (List ℕ) PlacedWord)
      → all ≡ text ∷ ls → Fails refusal e (line_turns done line text)
      → all_turns done line all ≡ total → Fails refusal e total
  lines-stop refusal e done line text ls all total cut is so_far =
      fails-with refusal e (line_turns done line text) total
      (λ d at. sym (rw cut at so_far) ∙ front-fails (turn_of p) done d
      (placed_from line 1 (words text)) (words_from (line + 1) ls) at) is
