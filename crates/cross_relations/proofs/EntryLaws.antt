-- Entries of one alternative, made of one alternative after another, and of one entry after another.
use Rattle.std.proofs.Common.{◌≡◌, ℕ, ◌+◌, ◌<◌, Bool, List, [], ◌∷◌, ◌++◌, map, filter, length, drop, get_or, refl, sym, ap, ◌∙◌, inl, inr, append_assoc}
use Rattle.std.proofs.lemmas.Bool.{cases_Bool}
use Rattle.std.proofs.lemmas.List.{map-append, drop_more}
use Rattle.std.proofs.lemmas.List.Concat.{flat_map-append}
use Rattle.std.specs.List.{flat_map}
use Rattle.deb_relation.specs.Common.{Atom, Entry, Relations}
use Rattle.cross_laws.specs.Binary.{atoms}
use Rattle.cross_laws.specs.Encoding.{singles}

-- a list grows by what is made of the next item
module _ {X Y : Type 0} (F : List X → List Y) (f : X → List Y)
    (each : (x : X) (xs : List X) → F (x ∷ xs) ≡ f x ++ F xs) where
  pub grown : (items : List X) (i : ℕ) (x : X) (made next whole : List Y)
      → i < length items → x ≡ get_or items i x → made ++ F (drop i items) ≡ whole
      → next ≡ made ++ f x → next ++ F (drop (i + 1) items) ≡ whole
  grown items i x made next whole below at so_far is =
      let rest = drop (i + 1) items in
      let cut : drop i items ≡ x ∷ rest =
      drop_more items i x below ∙ ap (λ (y : X). y ∷ rest) (sym at) in
      ap (λ (m : List Y). m ++ F rest) is
      ∙ append_assoc made (f x) (F rest)
      ∙ ap (λ (m : List Y). made ++ m) (sym (each x rest))
      ∙ ap (λ (xs : List X). made ++ F xs) (sym cut)
      ∙ so_far

pub singles-append : (xs ys : List Atom) → singles (xs ++ ys) ≡ singles xs ++ singles ys
singles-append xs ys = map-append (λ (item : Atom). item ∷ []) xs ys

module _ (make : Atom → List Atom) where
  -- of each alternative of an entry
  pub singles-entry : (atom : Atom) (entry : Entry)
      → singles (flat_map make (atom ∷ entry))
      ≡ singles (make atom) ++ singles (flat_map make entry)
  singles-entry atom entry = singles-append (make atom) (flat_map make entry)

  -- of each alternative of a field, in its first entry and in the others
  pub singles-field : (entry : Entry) (entries : Relations)
      → singles (flat_map make (atoms (entry ∷ entries)))
      ≡ singles (flat_map make entry) ++ singles (flat_map make (atoms entries))
  singles-field entry entries =
      ap singles (flat_map-append make entry (atoms entries))
      ∙ singles-append (flat_map make entry) (flat_map make (atoms entries))

-- of each that passes a test
module _ {X : Type 0} (make : X → Atom) (test : X → Bool) where
  pub singles-passing : (x : X) (xs : List X)
      → singles (map make (filter test (x ∷ xs)))
      ≡ singles (map make (filter test (x ∷ []))) ++ singles (map make (filter test xs))
  singles-passing x xs =
      elim (cases_Bool (test x)) [
        | inl is ↦ rw is refl
        | inr is ↦ rw is refl
      ]
