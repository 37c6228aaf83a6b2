-- A list that is kept as one, when it grows and when its last element changes.
use Rattle.std.proofs.Common.{◌≡◌, ℕ, zero, suc, ◌+◌, ◌-◌, ◌<◌, ◌≤◌, List, [], ◌∷◌, ◌++◌, length, get_or, take, drop, drop-cons, add-one, refl, sym, ap, ◌∙◌, arith, length-drop}
use Rattle.std.specs.List.{slice_range}
use Rattle.std.proofs.lemmas.List.{take_all, take-append-le, drop_all}
use Rattle.deb_stanza.specs.Cut.{onto_last, end_at, IsCut, cut}

module _ {X : Type 0} where
  pub onto_last-push : (f : X → X) (xs : List X) (x : X)
      → onto_last f (xs ++ x ∷ []) ≡ xs ++ f x ∷ []
  onto_last-push f [] x = refl
  onto_last-push f (y ∷ []) x = refl
  onto_last-push f (y ∷ z ∷ zs) x = ap (λ ys. y ∷ ys) (onto_last-push f (z ∷ zs) x)

  pub length-onto_last : (f : X → X) (xs : List X) → length (onto_last f xs) ≡ length xs
  length-onto_last f [] = refl
  length-onto_last f (x ∷ []) = refl
  length-onto_last f (x ∷ y ∷ ys) = ap suc (length-onto_last f (y ∷ ys))

  drop-onto_last : (f : X → X) (xs : List X) (n : ℕ) → n < length xs
      → drop n (onto_last f xs) ≡ onto_last f (drop n xs)
  drop-onto_last f xs zero lt = refl
  drop-onto_last f [] (suc n) lt = absurd (omega arith)
  drop-onto_last f (x ∷ []) (suc n) lt = absurd (omega arith)
  drop-onto_last f (x ∷ y ∷ ys) (suc n) lt = drop-onto_last f (y ∷ ys) n (omega arith)

  take-onto_last : (f : X → X) (xs : List X) (n : ℕ) → n < length xs
      → take n (onto_last f xs) ≡ take n xs
  take-onto_last f xs zero lt = refl
  take-onto_last f [] (suc n) lt = absurd (omega arith)
  take-onto_last f (x ∷ []) (suc n) lt = absurd (omega arith)
  take-onto_last f (x ∷ y ∷ ys) (suc n) lt =
      ap (λ zs. x ∷ zs) (take-onto_last f (y ∷ ys) n (omega arith))

  -- a part that ends before the last element stays
  range-before : (f : X → X) (xs : List X) (i j : ℕ) → i < j → j < length xs
      → slice_range (onto_last f xs) i j ≡ slice_range xs i j
  range-before f xs i j lt high =
      rw (drop-onto_last f xs i (omega arith))
      (take-onto_last f (drop i xs) (j - i) (omega (arith, length-drop i xs)))

  -- the part up to the end
  pub range-to_end : (xs : List X) (i : ℕ) → slice_range xs i (length xs) ≡ drop i xs
  range-to_end xs i = take_all (length xs - i) (drop i xs) (omega (arith, length-drop i xs))

  range-onto_last : (f : X → X) (xs : List X) (i : ℕ) → i < length xs
      → slice_range (onto_last f xs) i (length (onto_last f xs))
      ≡ onto_last f (slice_range xs i (length xs))
  range-onto_last f xs i lt =
      range-to_end (onto_last f xs) i ∙ drop-onto_last f xs i lt
      ∙ ap (onto_last f) (sym (range-to_end xs i))

  drop-append : (xs ys : List X) (i : ℕ) → i ≤ length xs → drop i (xs ++ ys) ≡ drop i xs ++ ys
  drop-append xs ys zero le = refl
  drop-append [] ys (suc i) le = absurd (omega arith)
  drop-append (x ∷ xs) ys (suc i) le = drop-append xs ys i (omega arith)

  -- a part within the list stays where the list grows
  range-within : (xs ys : List X) (i j : ℕ) → i ≤ j → j ≤ length xs
      → slice_range (xs ++ ys) i j ≡ slice_range xs i j
  range-within xs ys i j le high =
      rw (drop-append xs ys i (omega arith))
      (take-append-le (j - i) (drop i xs) ys (omega (arith, length-drop i xs)))

  range-append : (xs ys : List X) (i : ℕ) → i ≤ length xs
      → slice_range (xs ++ ys) i (length (xs ++ ys)) ≡ slice_range xs i (length xs) ++ ys
  range-append xs ys i le =
      range-to_end (xs ++ ys) i ∙ drop-append xs ys i le
      ∙ ap (λ zs. zs ++ ys) (sym (range-to_end xs i))

  range-last : (xs ys : List X) → slice_range (xs ++ ys) (length xs) (length (xs ++ ys)) ≡ ys
  range-last xs ys =
      range-to_end (xs ++ ys) (length xs) ∙ drop-append xs ys (length xs) (omega arith)
      ∙ ap (λ zs. zs ++ ys) (drop_all (length xs) xs (omega arith))

module _ {C : Type 0} (start : C → ℕ) where
  -- where the list grows, its parts still ascend
  pub IsCut-more : (n m : ℕ) (cs : List C) → n ≤ m → IsCut start n cs → IsCut start m cs
  IsCut-more n m [] le is = tt
  IsCut-more n m (c ∷ []) le is = (omega (arith, is.0), tt)
  IsCut-more n m (c ∷ d ∷ ds) le is = (is.0, IsCut-more n m (d ∷ ds) le is.1)

  -- and a new part may begin at its end
  pub IsCut-push : (n m : ℕ) (cs : List C) (c : C) → IsCut start n cs → start c ≡ n → n < m
      → IsCut start m (cs ++ c ∷ [])
  IsCut-push n m [] c is e lt = (omega arith, tt)
  IsCut-push n m (d ∷ []) c is e lt = (omega (arith, is.0), (omega arith, tt))
  IsCut-push n m (d ∷ e ∷ es) c is at lt = (is.0, IsCut-push n m (e ∷ es) c is.1 at lt)

  -- each part begins within
  pub IsCut-below : (n : ℕ) (c : C) (cs : List C) → IsCut start n (c ∷ cs) → start c < n
  IsCut-below n c [] is = is.0
  IsCut-below n c (d ∷ ds) is = omega (arith, is.0, IsCut-below n d ds is.1)

  IsCut-room : (n : ℕ) (c : C) (cs : List C) → IsCut start n (c ∷ cs)
      → start c + length (c ∷ cs) ≤ n
  IsCut-room n c [] is = omega (arith, is.0)
  IsCut-room n c (d ∷ ds) is = omega (arith, is.0, IsCut-room n d ds is.1)

  -- there are no more parts than elements
  pub IsCut-count : (n : ℕ) (cs : List C) → IsCut start n cs → length cs ≤ n
  IsCut-count n [] is = omega arith
  IsCut-count n (c ∷ cs) is = omega (arith, IsCut-room n c cs is)

  module _ {X P : Type 0} (make : C → List X → P) where
    -- more elements in the last part
    pub cut-append : (grow : P → P) (ys : List X)
        → ((c : C) (part : List X) → make c (part ++ ys) ≡ grow (make c part))
        → (xs : List X) (cs : List C) → IsCut start (length xs) cs
        → cut start make (xs ++ ys) cs ≡ onto_last grow (cut start make xs cs)
    cut-append grow ys grows xs [] is = refl
    cut-append grow ys grows xs (c ∷ []) is =
        ap (λ p. p ∷ [])
        (ap (make c) (range-append xs ys (start c) (omega (arith, is.0)))
        ∙ grows c (slice_range xs (start c) (length xs)))
    cut-append grow ys grows xs (c ∷ d ∷ ds) is =
        rw (range-within xs ys (start c) (start d) (omega (arith, is.0))
        (omega (arith, IsCut-below (length xs) d ds is.1)))
        (ap (λ ps. make c (slice_range xs (start c) (start d)) ∷ ps)
        (cut-append grow ys grows xs (d ∷ ds) is.1))

    -- another last element
    pub cut-onto_last : (f : X → X) (grow : P → P)
        → ((c : C) (part : List X) → make c (onto_last f part) ≡ grow (make c part))
        → (xs : List X) (cs : List C) → IsCut start (length xs) cs
        → cut start make (onto_last f xs) cs ≡ onto_last grow (cut start make xs cs)
    cut-onto_last f grow grows xs [] is = refl
    cut-onto_last f grow grows xs (c ∷ []) is =
        ap (λ p. p ∷ [])
        (ap (make c) (range-onto_last f xs (start c) is.0)
        ∙ grows c (slice_range xs (start c) (length xs)))
    cut-onto_last f grow grows xs (c ∷ d ∷ ds) is =
        rw (range-before f xs (start c) (start d) is.0 (IsCut-below (length xs) d ds is.1))
        (ap (λ ps. make c (slice_range xs (start c) (start d)) ∷ ps)
        (cut-onto_last f grow grows xs (d ∷ ds) is.1))

    -- one more part
    pub cut-push : (ys : List X) (xs : List X) (cs : List C) (c : C) → IsCut start (length xs) cs
        → start c ≡ length xs
        → cut start make (xs ++ ys) (cs ++ c ∷ []) ≡ cut start make xs cs ++ make c ys ∷ []
    cut-push ys xs [] c is e =
        ap (λ p. make c p ∷ [])
        (ap (λ i. slice_range (xs ++ ys) i (length (xs ++ ys))) e ∙ range-last xs ys)
    cut-push ys xs (d ∷ []) c is e =
        rw (
          ap (slice_range (xs ++ ys) (start d)) e,
          range-within xs ys (start d) (length xs) (omega (arith, is.0)) (omega arith),
        )
        (ap (λ ps. make d (slice_range xs (start d) (length xs)) ∷ ps) (cut-push ys xs [] c tt e))
    cut-push ys xs (d ∷ b ∷ bs) c is e =
        rw (range-within xs ys (start d) (start b) (omega (arith, is.0))
        (omega (arith, IsCut-below (length xs) b bs is.1)))
        (ap (λ ps. make d (slice_range xs (start d) (start b)) ∷ ps)
        (cut-push ys xs (b ∷ bs) c is.1 e))

-- the part up to a place begins with the element there
pub range-cons : {X : Type 0} (xs : List X) (i j : ℕ) (d : X) → i < j → j ≤ length xs
    → slice_range xs i j ≡ get_or xs i d ∷ slice_range xs (i + 1) j
range-cons xs i j d lt le =
    let more : j - i ≡ suc (j - (i + 1)) = omega arith in
    rw (more, drop-cons xs i d (omega arith), add-one) refl

pub range-empty : {X : Type 0} (xs : List X) (i j : ℕ) → j ≤ i → slice_range xs i j ≡ []
range-empty xs i j le = let none : j - i ≡ 0 = omega arith in rw none refl

module _ {C : Type 0} (start : C → ℕ) where
  -- a part ends behind its beginning, and not behind the end
  pub end_at-after : (n : ℕ) (cs : List C) (i : ℕ) (d : C) → IsCut start n cs → i < length cs
      → start (get_or cs i d) < end_at start n cs i
  end_at-after n [] i d is lt = absurd (omega arith)
  end_at-after n (c ∷ cs) zero d is lt = is.0
  end_at-after n (c ∷ cs) (suc i) d is lt =
      rw add-one (rw add-one at (end_at-after n cs i d is.1 (omega arith)))

  pub end_at-within : (n : ℕ) (cs : List C) (i : ℕ) → IsCut start n cs → i < length cs
      → end_at start n cs i ≤ n
  end_at-within n [] i is lt = absurd (omega arith)
  end_at-within n (c ∷ []) zero is lt = omega arith
  end_at-within n (c ∷ d ∷ ds) zero is lt = omega (arith, IsCut-below start n d ds is.1)
  end_at-within n (c ∷ cs) (suc i) is lt =
      rw add-one (rw add-one at (end_at-within n cs i is.1 (omega arith)))

  -- the part with a place
  pub get_or-cut : {X P : Type 0} (make : C → List X → P) (xs : List X) (cs : List C) (i : ℕ)
      (d : C) (e : P) → i < length cs
      → get_or (cut start make xs cs) i e
      ≡ make (get_or cs i d)
      (slice_range xs (start (get_or cs i d)) (end_at start (length xs) cs i))
  get_or-cut make xs [] i d e lt = absurd (omega arith)
  get_or-cut make xs (c ∷ cs) zero d e lt = refl
  get_or-cut make xs (c ∷ cs) (suc i) d e lt =
      rw add-one (rw add-one at (get_or-cut make xs cs i d e (omega arith)))

-- equal ends make equal parts
pub range-same : {X : Type 0} (xs ys : List X) (i k j l : ℕ) → xs ≡ ys → i ≡ k → j ≡ l
    → slice_range xs i j ≡ slice_range ys k l
range-same xs ys i k j l is_xs is_i is_j = λ at. slice_range (is_xs at) (is_i at) (is_j at)

pub end_at-same : {C : Type 0} (start : C → ℕ) (m n : ℕ) (cs ds : List C) (i : ℕ) → m ≡ n → cs ≡ ds
    → end_at start m cs i ≡ end_at start n ds i
end_at-same start m n cs ds i is_n is_cs = λ at. end_at start (is_n at) (is_cs at) i
