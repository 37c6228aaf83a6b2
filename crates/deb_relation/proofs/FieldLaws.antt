-- The first entry that is not of blanks alone, and the entries behind it; and loops over items
-- whose values go to what is made of them all.
use Rattle.std.proofs.Common.{◌≡◌, ℕ, ◌≤◌, ◌∷◌, ◌++◌, length, take, true, false, List, [], Option, Some, None, Result, Ok, Err, refl, sym, ap, ◌∙◌, append_assoc}
use Rattle.std.proofs.lemmas.List.{append-nil, take_all, take-append-le}
use Rattle.std.specs.List.{slice_split}
use Rattle.deb_text.specs.Common.{is_byte, Fails, parts_left, ◌>>=◌, then_all, traverse}
use Rattle.deb_text.proofs.StepLaws.{fails-with}
use Rattle.deb_relation.specs.Field.{is_empty_text, entries_left, only_judged}
use Rattle.deb_relation.specs.Marks.{comma}

pub entries-none : entries_left None ≡ []
unfolding entries_left
entries-none = refl

module _ (text entry : List ℕ) (rest : Option (List ℕ))
    (cut : slice_split (is_byte comma) text ≡ entry ∷ parts_left (is_byte comma) rest) where
  pub entries-skip : is_empty_text entry ≡ true → entries_left (Some text) ≡ entries_left rest
  unfolding entries_left
  entries-skip empty = rw (cut, empty) refl

  pub entries-next : is_empty_text entry ≡ false
      → entries_left (Some text) ≡ entry ∷ entries_left rest
  unfolding entries_left
  entries-next some = rw (cut, some) refl

-- ---- what is judged alone

module _ {A F : Type 0} where
  -- what is judged well is read
  pub judged-some : (read : Result A F) → only_judged read ≡ Ok tt → (x : A) × (read ≡ Ok x)
  judged-some (Ok x) is = (x, refl)
  judged-some (Err e) is = absurd cc

  -- what is refused is refused where it is read, and by whatever is made of it
  pub judged-refused : {E : Type 0} (refusal : E → Option F) (e : E) (read : Result A F)
      → Fails refusal e (only_judged read) → Fails refusal e read
  judged-refused refusal e read is = fails-with refusal e (only_judged read) read (by read) is where
    by : (r : Result A F) (d : F) → only_judged r ≡ Err d → r ≡ Err d
    by (Ok x) d at = absurd cc
    by (Err c) d at = let h : c ≡ d = cc in ap Err h

  pub judged-fails : {B E : Type 0} (refusal : E → Option F) (e : E) (read : Result A F)
      (k : A → Result B F) → Fails refusal e (only_judged read) → Fails refusal e (read >>= k)
  judged-fails refusal e read k is =
      fails-with refusal e (only_judged read) (read >>= k) (by read) is where
        by : (r : Result A F) (d : F) → only_judged r ≡ Err d → (r >>= k) ≡ Err d
        by (Ok x) d at = absurd cc
        by (Err c) d at = let h : c ≡ d = cc in ap Err h

  then-same : {B : Type 0} (read : Result A F) (k h : A → Result B F)
      → ((x : A) → k x ≡ h x) → (read >>= k) ≡ (read >>= h)
  then-same (Ok x) k h same = same x
  then-same (Err e) k h same = refl

-- ---- a loop over the items: it goes on by one, stops at a fault, or ends

module _ {A B C F : Type 0} (f : A → Result B F) where
  module _ (k : List B → Result C F) (x : A) (xs all : List A) (total : Result C F)
      (cut : all ≡ x ∷ xs) (so_far : (traverse f all >>= k) ≡ total) where
    by-first : (r : Result B F) (rest : Result (List B) F) (y : B) → r ≡ Ok y
        → (then_all r rest >>= k) ≡ (rest >>= λ ys. k (y ∷ ys))
    by-first (Ok z) (Ok ys) y is = let h : z ≡ y = cc in ap (λ w. k (w ∷ ys)) h
    by-first (Ok z) (Err e) y is = refl
    by-first (Err e) rest y is = absurd cc

    pub each-goes : (h : List B → Result C F) (y : B) → f x ≡ Ok y
        → ((ys : List B) → h ys ≡ k (y ∷ ys)) → (traverse f xs >>= h) ≡ total
    unfolding traverse
    each-goes h y is same =
        then-same (traverse f xs) h (λ ys. k (y ∷ ys)) same
        ∙ sym (by-first (f x) (traverse f xs) y is) ∙ (rw cut at so_far)

    pub each-stops : {E : Type 0} (refusal : E → Option F) (e : E)
        → Fails refusal e (f x) → Fails refusal e total
    unfolding traverse
    each-stops refusal e is =
        fails-with refusal e (f x) total (λ d at. sym (rw (cut, at) at so_far)) is

  pub each-ends : (k : List B → Result C F) (all : List A) (total : Result C F) → all ≡ []
      → (traverse f all >>= k) ≡ total → total ≡ k []
  unfolding traverse
  each-ends k all total cut so_far = sym (rw cut at so_far)

-- ---- a loop that keeps no more than so many of what its values come to

-- what is kept so far, and what more of it the values that are read behind come to
abbrev pub kept_on : {B C F : Type 0} → (List B → List C) → ℕ → List C → Result (List B) F
    → Result (List C) F
kept_on made most done read = read >>= λ ys. Ok (take most (done ++ made ys))

module _ {A B C F : Type 0} (f : A → Result B F) (made : List B → List C) (one : B → List C)
    (of_none : made [] ≡ [])
    (of_more : (y : B) (ys : List B) → made (y ∷ ys) ≡ one y ++ made ys)
    (most : ℕ) (done : List C) where
  module _ (x : A) (xs all : List A) (total : Result (List C) F) (cut : all ≡ x ∷ xs)
      (so_far : kept_on made most done (traverse f all) ≡ total) where
    pub kept-goes : (y : B) → f x ≡ Ok y
        → kept_on made most (done ++ one y) (traverse f xs) ≡ total
    kept-goes y is =
        each-goes f (λ ys. Ok (take most (done ++ made ys))) x xs all total cut so_far
        (λ ys. Ok (take most ((done ++ one y) ++ made ys))) y is
        (λ ys. rw (append_assoc done (one y) (made ys), of_more y ys) refl)

    pub kept-stops : {E : Type 0} (refusal : E → Option F) (e : E)
        → Fails refusal e (f x) → Fails refusal e total
    kept-stops refusal e is =
        each-stops f (λ ys. Ok (take most (done ++ made ys))) x xs all total cut so_far refusal e is

  module _ (all : List A) (total : Result (List C) F)
      (so_far : kept_on made most done (traverse f all) ≡ total) where
    pub kept-ends : length done ≤ most → all ≡ [] → total ≡ Ok done
    kept-ends within cut =
        each-ends f (λ ys. Ok (take most (done ++ made ys))) all total cut so_far
        ∙ rw (of_none, append-nil done, take_all most done within) refl

    -- no more is kept: what is left is judged
    pub kept-fails : {E : Type 0} (refusal : E → Option F) (e : E)
        → Fails refusal e (only_judged (traverse f all)) → Fails refusal e total
    kept-fails refusal e is =
        rw (← so_far)
        (judged-fails refusal e (traverse f all) (λ ys. Ok (take most (done ++ made ys))) is)

    pub kept-whole : length done ≤ most → most ≤ length done
        → only_judged (traverse f all) ≡ Ok tt → total ≡ Ok done
    kept-whole within full is =
        let some = judged-some (traverse f all) is in
        let whole : take most (done ++ made some.0) ≡ done =
        take-append-le most done (made some.0) full ∙ take_all most done within in
        sym so_far ∙ rw (some.1, whole) refl
