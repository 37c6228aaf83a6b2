-- One more line: the parts of the lines, and the texts of a part.
use Rattle.std.proofs.Common.{◌≡◌, ℕ, Bool, true, false, List, [], ◌∷◌, ◌++◌, refl, sym, ap, ◌∙◌, append_assoc, inl, inr}
use Rattle.std.proofs.lemmas.Bool.{cases_Bool}
use Rattle.std.proofs.lemmas.List.{append-nil}
use Rattle.std.proofs.lemmas.List.Concat.{flat_map-append}
use Rattle.std.specs.List.{slice_split, onto_first, flat_map}
use Rattle.deb_text.specs.Lines.{Line}
use Rattle.deb_text.proofs.PartLaws.{split-cons}
use Rattle.deb_stanza.specs.Cut.{onto_last}
use Rattle.deb_stanza.specs.Stanza.{continues, continuation, field_text, texts_of, last_part_of}

module _ {X : Type 0} (p : X → Bool) where
  -- the last part
  pub split-last : (xs : List X)
      → (init : List (List X)) × (q : List X) × (slice_split p xs ≡ init ++ q ∷ [])
  split-last [] = ([], [], refl)
  split-last (x ∷ xs) = by (p x) refl (split-last xs) where
    onto : (init : List (List X)) (q : List X)
        → (i : List (List X)) × (r : List X) × (onto_first x (init ++ q ∷ []) ≡ i ++ r ∷ [])
    onto [] q = ([], x ∷ q, refl)
    onto (i ∷ is) q = ((x ∷ i) ∷ is, q, refl)

    by : (b : Bool) → p x ≡ b
        → (init : List (List X)) × (q : List X) × (slice_split p xs ≡ init ++ q ∷ [])
        → (init : List (List X)) × (q : List X) × (slice_split p (x ∷ xs) ≡ init ++ q ∷ [])
    by true is last = ([] ∷ last.0, last.1, rw (is, last.2) refl)
    by false is last = let h = onto last.0 last.1 in (h.0, h.1, rw (is, last.2) h.2)

  -- a separator ends the last part
  pub split-at : (xs : List X) (x : X) → p x ≡ true
      → slice_split p (xs ++ x ∷ []) ≡ slice_split p xs ++ [] ∷ []
  split-at [] x is = rw is refl
  split-at (y ∷ ys) x is =
      let some = split-cons p ys in
      elim (cases_Bool (p y)) [
        | inl e ↦ rw (e, split-at ys x is) refl
        | inr e ↦ rw (e, split-at ys x is, some.2) refl
      ]

  -- another element goes to it
  pub split-in : (xs : List X) (x : X) → p x ≡ false
      → slice_split p (xs ++ x ∷ []) ≡ onto_last (λ q. q ++ x ∷ []) (slice_split p xs)
  split-in [] x is = rw is refl
  split-in (y ∷ ys) x is =
      let some = split-cons p ys in
      elim (cases_Bool (p y)) [
        | inl e ↦ rw (e, split-in ys x is, some.2) refl
        | inr e ↦ rw (e, split-in ys x is, some.2) (onto some.0 some.1)
      ] where
        onto : (q : List X) (qs : List (List X))
            → onto_first y (onto_last (λ q. q ++ x ∷ []) (q ∷ qs))
            ≡ onto_last (λ q. q ++ x ∷ []) (onto_first y (q ∷ qs))
        onto q [] = refl
        onto q (r ∷ rs) = refl

pub last_of-push : {X : Type 0} (qs : List (List X)) (q : List X) → last_part_of (qs ++ q ∷ []) ≡ q
last_of-push [] q = refl
last_of-push (r ∷ []) q = refl
last_of-push (r ∷ s ∷ ss) q = last_of-push (s ∷ ss) q

-- ---- the texts of the fields

continuation-head : (p : List Line) (l : Line) → continues l ≡ false
    → continuation (p ++ l ∷ []) ≡ continuation p
continuation-head [] l is = rw is refl
continuation-head (x ∷ p) l is =
    elim (cases_Bool (continues x)) [
      | inl more ↦ rw more (ap (λ (ls : List Line). x ∷ ls) (continuation-head p l is))
      | inr head ↦ rw head refl
    ]

-- a line that continues nothing begins a field
pub texts_of-head : (p : List Line) (l : Line) → continues l ≡ false
    → texts_of (p ++ l ∷ []) ≡ texts_of p ++ l.1 ∷ []
texts_of-head [] l is = rw (is, append-nil l.1) refl
texts_of-head (x ∷ p) l is =
    elim (cases_Bool (continues x)) [
      | inl more ↦ rw more (texts_of-head p l is)
      | inr head ↦ rw (head, continuation-head p l is, texts_of-head p l is) refl
    ]

nil≢cons : {A : Type 0} {x : A} {xs : List A} → [] ≡ x ∷ xs → ⊥
nil≢cons e = absurd cc

continuation-more : (p : List Line) (l : Line) → continues l ≡ true → texts_of p ≡ []
    → continuation (p ++ l ∷ []) ≡ continuation p ++ l ∷ []
continuation-more [] l is none = rw is refl
continuation-more (x ∷ p) l is none =
    elim (cases_Bool (continues x)) [
      | inl more ↦
          rw more (ap (λ (ls : List Line). x ∷ ls) (continuation-more p l is (rw more at none)))
      | inr head ↦ let h = rw head at none in absurd (nil≢cons (sym h))
    ]

continuation-past : (p : List Line) (l : Line) (t : List ℕ) (ts : List (List ℕ))
    → texts_of p ≡ t ∷ ts → continuation (p ++ l ∷ []) ≡ continuation p
continuation-past [] l t ts some = absurd (nil≢cons some)
continuation-past (x ∷ p) l t ts some =
    elim (cases_Bool (continues x)) [
      | inl more ↦
          rw more (ap (λ (ls : List Line). x ∷ ls) (continuation-past p l t ts (rw more at some)))
      | inr head ↦ rw head refl
    ]

field_text-push : (x : Line) (more : List Line) (l : Line)
    → field_text x (more ++ l ∷ []) ≡ field_text x more ++ 10 ∷ l.1
field_text-push x more l =
    ap (λ (bs : List ℕ). x.1 ++ bs)
    (flat_map-append (λ (m : Line). 10 ∷ m.1) more (l ∷ [])
    ∙ ap (λ (bs : List ℕ). flat_map (λ (m : Line). 10 ∷ m.1) more ++ bs) (append-nil (10 ∷ l.1)))
    ∙ sym (append_assoc x.1 (flat_map (λ (m : Line). 10 ∷ m.1) more) (10 ∷ l.1))

at_head : (x : Line) (p : List Line) (l : Line) → continues l ≡ true → (ts : List (List ℕ))
    → texts_of p ≡ ts
    → field_text x (continuation (p ++ l ∷ [])) ∷ onto_last (λ t. t ++ 10 ∷ l.1) ts
    ≡ onto_last (λ t. t ++ 10 ∷ l.1) (field_text x (continuation p) ∷ ts)
at_head x p l is [] none =
    rw (continuation-more p l is none, field_text-push x (continuation p) l) refl
at_head x p l is (t ∷ ts) some = rw (continuation-past p l t ts some) refl

-- a line that continues goes to the last field
pub texts_of-more : (p : List Line) (l : Line) → continues l ≡ true
    → texts_of (p ++ l ∷ []) ≡ onto_last (λ t. t ++ 10 ∷ l.1) (texts_of p)
texts_of-more [] l is = rw is refl
texts_of-more (x ∷ p) l is =
    elim (cases_Bool (continues x)) [
      | inl more ↦ rw more (texts_of-more p l is)
      | inr head ↦ rw (head, texts_of-more p l is) (at_head x p l is (texts_of p) refl)
    ]
