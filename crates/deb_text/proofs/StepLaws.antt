-- Items one after the other: the law that steps keep, and the goals of loops that go by them.
use Rattle.std.proofs.Common.{◌≡◌, ℕ, ◌+◌, ◌<◌, ◌≤◌, length, map, drop, get_or, List, [], ◌∷◌, ◌++◌, Option, Some, None, Result, Ok, Err, refl, sym, ap, subst, ◌∙◌, append_assoc, MatchOption}
use Rattle.std.proofs.lemmas.List.{append-nil, at_drop_more, drop_all}
use Rattle.deb_text.specs.Answers.{Fails}
use Rattle.deb_text.specs.Steps.{◌>>=◌, answer, or_else, first_fault, judged, steps, then_all, with_front, traverse, good_before, goods, own_or, item_fault, read_step}

-- a total that fails where a part does, with the same fault, is refused where the part is
pub fails-with : {E F X Y : Type 0} (refusal : E → Option F) (e : E) (part : Result X F)
    (total : Result Y F) → ((d : F) → part ≡ Err d → total ≡ Err d)
    → Fails refusal e part → Fails refusal e total
fails-with {F = F} refusal e part total fails is = go (refusal e) is where
  go : (o : Option F) → MatchOption o (Unit {0}) (λ d. part ≡ Err d)
      → MatchOption o (Unit {0}) (λ d. total ≡ Err d)
  go None h = tt
  go (Some d) h = fails d h

module _ {S X F : Type 0} (f : S → X → Result S F) where
  under : (judge : List X → X → Option F) (meaning : List X → S) (Fine : List X → Type 0)
      → ((before : List X) (x : X) → Fine before → judge before x ≡ None → Fine (before ++ x ∷ []))
      → ((before : List X) (x : X) → Fine before
      → f (meaning before) x ≡ answer (judge before x) (meaning (before ++ x ∷ [])))
      → (xs before : List X) → Fine before
      → steps f (meaning before) xs ≡ answer (first_fault judge before xs) (meaning (before ++ xs))
  unfolding steps
  under judge meaning Fine stays keeps [] before fine =
      ap (λ (ys : List X). Ok (meaning ys)) (sym (append-nil before))
  under judge meaning Fine stays keeps (x ∷ xs) before fine =
      let later = λ (e : judge before x ≡ None).
      under judge meaning Fine stays keeps xs (before ++ x ∷ []) (stays before x fine e)
      ∙ ap (λ (ys : List X). answer (first_fault judge (before ++ x ∷ []) xs) (meaning ys))
      (append_assoc before (x ∷ []) xs) in
      rw (keeps before x fine) (go (judge before x) refl later) where
        go : (o : Option F) → judge before x ≡ o
            → (judge before x ≡ None → steps f (meaning (before ++ x ∷ [])) xs
            ≡ answer (first_fault judge (before ++ x ∷ []) xs) (meaning (before ++ x ∷ xs)))
            → (answer o (meaning (before ++ x ∷ [])) >>= λ t. steps f t xs)
            ≡ answer (or_else o (first_fault judge (before ++ x ∷ []) xs))
            (meaning (before ++ x ∷ xs))
        go None is later = later is
        go (Some e) is later = refl

  -- steps that keep the meaning of the items so far give what judging each item gives; Fine says
  -- what is known of items without a fault
  pub steps-judged_under : (judge : List X → X → Option F) (meaning : List X → S)
      (Fine : List X → Type 0)
      → ((before : List X) (x : X) → Fine before → judge before x ≡ None → Fine (before ++ x ∷ []))
      → ((before : List X) (x : X) → Fine before
      → f (meaning before) x ≡ answer (judge before x) (meaning (before ++ x ∷ [])))
      → (xs : List X) → Fine [] → steps f (meaning []) xs ≡ judged judge meaning xs
  unfolding judged
  steps-judged_under judge meaning Fine stays keeps xs fine =
      under judge meaning Fine stays keeps xs [] fine

  -- the same, where nothing needs to be known of them
  pub steps-judged : (judge : List X → X → Option F) (meaning : List X → S)
      → ((before : List X) (x : X)
      → f (meaning before) x ≡ answer (judge before x) (meaning (before ++ x ∷ [])))
      → (xs : List X) → steps f (meaning []) xs ≡ judged judge meaning xs
  steps-judged judge meaning keeps xs =
      steps-judged_under judge meaning (λ _. Unit {0}) (λ _ _ _ _. tt)
      (λ before x _. keeps before x) xs tt

  -- a loop over the items: it goes on by one, stops at a fault, or ends
  pub steps-goes : (s t : S) (x : X) (xs all : List X) (total : Result S F)
      → all ≡ x ∷ xs → f s x ≡ Ok t → steps f s all ≡ total → steps f t xs ≡ total
  unfolding steps
  steps-goes s t x xs all total cut is so_far = rw (cut, is) at so_far

  pub steps-stops : {E : Type 0} (refusal : E → Option F) (e : E) (s : S) (x : X) (xs all : List X)
      (total : Result S F)
      → all ≡ x ∷ xs → Fails refusal e (f s x) → steps f s all ≡ total → Fails refusal e total
  unfolding steps
  steps-stops refusal e s x xs all total cut is so_far =
      fails-with refusal e (f s x) total (λ d at. sym (rw (cut, at) at so_far)) is

  pub steps-ends : (s : S) (all : List X) (total : Result S F) → all ≡ [] → steps f s all ≡ total
      → total ≡ Ok s
  unfolding steps
  steps-ends s all total cut so_far = sym (rw cut at so_far)

-- a loop over the places of a list
module _ {S X F : Type 0} (f : S → X → Result S F) where
  pub place-goes : (xs : List X) (i : ℕ) (d : X) (s t : S) (total : Result S F)
      → i < length xs → f s (get_or xs i d) ≡ Ok t → steps f s (drop i xs) ≡ total
      → steps f t (drop (i + 1) xs) ≡ total
  place-goes xs i d s t total lt is so_far =
      steps-goes f s t (get_or xs i d) (drop (i + 1) xs) (drop i xs) total
      (at_drop_more (λ (ys : List X). ys) xs i d lt) is so_far

  pub place-stops : {E : Type 0} (refusal : E → Option F) (e : E) (xs : List X) (i : ℕ) (d : X)
      (s : S) (total : Result S F)
      → i < length xs → Fails refusal e (f s (get_or xs i d)) → steps f s (drop i xs) ≡ total
      → Fails refusal e total
  place-stops refusal e xs i d s total lt is so_far =
      steps-stops f refusal e s (get_or xs i d) (drop (i + 1) xs) (drop i xs) total
      (at_drop_more (λ (ys : List X). ys) xs i d lt) is so_far

  pub place-ends : (xs : List X) (i : ℕ) (s : S) (total : Result S F) → length xs ≤ i
      → steps f s (drop i xs) ≡ total → total ≡ Ok s
  place-ends xs i s total le so_far = steps-ends f s (drop i xs) total (drop_all i xs le) so_far

-- what is made of the meaning of items is judged as they are
module _ {X A B F : Type 0} (judge : List X → X → Option F) (meaning : List X → A)
    (made : A → B) where
  pub judged-made : (xs : List X) (x : A) → judged judge meaning xs ≡ Ok x
      → judged judge (λ ys. made (meaning ys)) xs ≡ Ok (made x)
  unfolding judged
  judged-made xs x is = by (first_fault judge [] xs) is where
    by : (o : Option F) → answer o (meaning xs) ≡ Ok x → answer o (made (meaning xs)) ≡ Ok (made x)
    by None e = let h : meaning xs ≡ x = cc in ap (λ y. Ok (made y)) h
    by (Some f) e = absurd cc

  pub judged-fails : {E : Type 0} (refusal : E → Option F) (e : E) (xs : List X)
      → Fails refusal e (judged judge meaning xs)
      → Fails refusal e (judged judge (λ ys. made (meaning ys)) xs)
  unfolding judged
  judged-fails refusal e xs is =
      fails-with refusal e (judged judge meaning xs)
      (judged judge (λ ys. made (meaning ys)) xs) (λ d h. by d (first_fault judge [] xs) h) is where
        by : (f : F) (o : Option F) → answer o (meaning xs) ≡ Err f
            → answer o (made (meaning xs)) ≡ Err f
        by f None h = absurd cc
        by f (Some g) h = let same : g ≡ f = cc in ap Err same

-- a `for` over a slice
module _ {S X F C : Type 0} (f : S → X → Result S F) (view : C → X) where
  first-left : (cs : List C) (i : ℕ) (d : C) → i < length cs
      → map view (drop i cs) ≡ view (get_or cs i d) ∷ map view (drop (i + 1) cs)
  first-left cs i d lt = at_drop_more (map view) cs i d lt

  pub slice-goes : (cs : List C) (i : ℕ) (d : C) (s t : S) (total : Result S F) → i < length cs
      → f s (view (get_or cs i d)) ≡ Ok t
      → steps f s (map view (drop i cs)) ≡ total → steps f t (map view (drop (i + 1) cs)) ≡ total
  slice-goes cs i d s t total lt is so_far =
      steps-goes f s t (view (get_or cs i d)) (map view (drop (i + 1) cs))
      (map view (drop i cs)) total (first-left cs i d lt) is so_far

  pub slice-stops : {E : Type 0} (refusal : E → Option F) (e : E) (cs : List C) (i : ℕ) (d : C)
      (s : S) (total : Result S F)
      → i < length cs → Fails refusal e (f s (view (get_or cs i d)))
      → steps f s (map view (drop i cs)) ≡ total → Fails refusal e total
  slice-stops refusal e cs i d s total lt is so_far =
      steps-stops f refusal e s (view (get_or cs i d)) (map view (drop (i + 1) cs))
      (map view (drop i cs)) total (first-left cs i d lt) is so_far

  pub slice-ends : (cs : List C) (i : ℕ) (s : S) (total : Result S F) → length cs ≤ i
      → steps f s (map view (drop i cs)) ≡ total → total ≡ Ok s
  slice-ends cs i s total le so_far =
      steps-ends f s (map view (drop i cs)) total (ap (map view) (drop_all i cs le)) so_far

  -- the same over items that own memory: an item is a value of its own, equal to the one at the
  -- index
  pub owned-goes : (cs : List C) (i : ℕ) (x : C) (s t : S) (total : Result S F) → i < length cs
      → x ≡ get_or cs i x → f s (view x) ≡ Ok t
      → steps f s (map view (drop i cs)) ≡ total → steps f t (map view (drop (i + 1) cs)) ≡ total
  owned-goes cs i x s t total lt at is so_far =
      slice-goes cs i x s t total lt (subst (λ y. f s (view y) ≡ Ok t) at is) so_far

  pub owned-stops : {E : Type 0} (refusal : E → Option F) (e : E) (cs : List C) (i : ℕ) (x : C)
      (s : S) (total : Result S F)
      → i < length cs → x ≡ get_or cs i x → Fails refusal e (f s (view x))
      → steps f s (map view (drop i cs)) ≡ total → Fails refusal e total
  owned-stops refusal e cs i x s total lt at is so_far =
      slice-stops refusal e cs i x s total lt
      (subst (λ y. Fails refusal e (f s (view y))) at is) so_far

-- items that are each read by themselves
module _ {A B F : Type 0} (f : A → Result B F) where
  pub with_front-push : (done : List B) (y : B) (read : Result (List B) F)
      → with_front done (read >>= λ ys. Ok (y ∷ ys)) ≡ with_front (done ++ y ∷ []) read
  with_front-push done y (Ok ys) = ap Ok (sym (append_assoc done (y ∷ []) ys))
  with_front-push done y (Err e) = refl

  pub traverse-goes : (done : List B) (x : A) (xs all : List A) (y : B) (total : Result (List B) F)
      → all ≡ x ∷ xs → f x ≡ Ok y
      → with_front done (traverse f all) ≡ total
      → with_front (done ++ y ∷ []) (traverse f xs) ≡ total
  unfolding traverse
  traverse-goes done x xs all y total cut is so_far =
      sym (with_front-push done y (traverse f xs)) ∙ (rw (cut, is) at so_far)

  pub traverse-stops : {E : Type 0} (refusal : E → Option F) (e : E) (done : List B) (x : A)
      (xs all : List A) (total : Result (List B) F)
      → all ≡ x ∷ xs → Fails refusal e (f x) → with_front done (traverse f all) ≡ total
      → Fails refusal e total
  unfolding traverse
  traverse-stops refusal e done x xs all total cut is so_far =
      fails-with refusal e (f x) total (λ d at. sym (rw (cut, at) at so_far)) is

  pub traverse-ends : (done : List B) (all : List A) (total : Result (List B) F) → all ≡ []
      → with_front done (traverse f all) ≡ total → total ≡ Ok done
  unfolding traverse
  traverse-ends done all total cut so_far = sym (rw (cut, append-nil done) at so_far)

  pub traverse-nil : traverse f [] ≡ Ok []
  unfolding traverse
  traverse-nil = refl

  pub traverse-cons : (x : A) (xs : List A) → traverse f (x ∷ xs) ≡ then_all (f x) (traverse f xs)
  unfolding traverse
  traverse-cons x xs = refl

-- items that are read one by one, and then judged together
module _ {P X F : Type 0} (read : P → Result X F) where
  good_before-push : (r : Result X F) (xs : List X) (x : X)
      → good_before r (xs ++ x ∷ []) ≡ good_before r xs ++ x ∷ []
  good_before-push (Ok y) xs x = refl
  good_before-push (Err e) xs x = refl

  pub goods-push : (ps : List P) (p : P) (x : X) → read p ≡ Ok x
      → goods read (ps ++ p ∷ []) ≡ goods read ps ++ x ∷ []
  goods-push [] p x e = rw e refl
  goods-push (q ∷ qs) p x e = rw (goods-push qs p x e) (good_before-push (read q) (goods read qs) x)

  module _ {S : Type 0} (step : S → X → Result S F) (judge : List X → X → Option F)
      (meaning : List X → S)
      (keeps : (before : List X) (x : X)
      → step (meaning before) x ≡ answer (judge before x) (meaning (before ++ x ∷ []))) where
    read_step-keeps : (before : List P) (p : P)
        → read_step read step (meaning (goods read before)) p
        ≡ answer (item_fault read judge before p) (meaning (goods read (before ++ p ∷ [])))
    read_step-keeps before p = by (read p) refl where
      by : (r : Result X F) → read p ≡ r
          → (r >>= step (meaning (goods read before)))
          ≡ answer (own_or r (judge (goods read before))) (meaning (goods read (before ++ p ∷ [])))
      by (Err e) is = refl
      by (Ok x) is = rw (goods-push before p x is) (keeps (goods read before) x)

    -- the law of steps, lifted from values to the items that they are read from
    pub read_steps-judged : (ps : List P)
        → steps (read_step read step) (meaning []) ps
        ≡ judged (item_fault read judge) (λ qs. meaning (goods read qs)) ps
    read_steps-judged ps =
        steps-judged (read_step read step) (item_fault read judge)
        (λ qs. meaning (goods read qs)) read_step-keeps ps
