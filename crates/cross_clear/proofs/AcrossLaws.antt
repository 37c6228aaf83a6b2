-- What packages would be taken for, offer by offer.
use Rattle.std.proofs.Common.{◌≡◌, Bool, true, false, not, ◌&&◌, ◌||◌, List, [], ◌∷◌, filter, refl, sym, subst, ap, ◌∙◌}
use Rattle.std.proofs.Math.Bool.{or-false}
use Rattle.std.specs.List.{flat_map, list_all, list_any}
use Rattle.deb_relation.specs.Common.{Atom, Entry, Relations}
use Rattle.cross_laws.specs.Binary.{Sides, Binary, Standing, Offer, Asked, Unsaid, Any, Native, Named, Elsewhere, asked, itself, standing, provided_as, atoms}
use Rattle.cross_laws.specs.Clear.{is_across, is_mistaken}
use Rattle.cross_laws.specs.Encoding.{asker, exactly, is_replaced}
use Rattle.cross_laws.specs.Excludes.{hits_other}
use Rattle.cross_laws.specs.Meets.{meets}
use Rattle.cross_laws.proofs.Lists.{any-filter, any-flat, any-same}
use Rattle.cross_clear.specs.Across.{across_by, by_item, by_some, taken_by}
use Rattle.cross_clear.specs.Guard.{is_unmistaken}

module _ (s : Sides) (f : Offer → Bool) (own : Standing) where
  one-item : (item : Atom) (other : Asked)
      → list_any f (provided_as item own other) ≡ by_item f own item other
  one-item item Unsaid = or-false _
  one-item item (Named side) = or-false _
  one-item item Any = refl
  one-item item Native = refl
  one-item item Elsewhere = refl

  offers-of : Atom → List Offer
  offers-of item = provided_as item own (asked s item.qualifier)

  pub all-items : (field : Relations)
      → list_any f (flat_map (λ item. provided_as item own (asked s item.qualifier)) (atoms field))
      ≡ by_some s f own field
  all-items field =
      let g = λ (item : Atom). provided_as item own (asked s item.qualifier) in
      any-flat f g (atoms field)
      ∙ any-flat (λ (item : Atom). list_any f (g item)) (λ (entry : Entry). entry) field
      ∙ any-same (λ (entry : Entry). list_any (λ (item : Atom). list_any f (g item)) entry)
      (λ (entry : Entry).
      list_any (λ (item : Atom). by_item f own item (asked s item.qualifier)) entry)
      (λ entry. any-same (λ (item : Atom). list_any f (g item))
      (λ (item : Atom). by_item f own item (asked s item.qualifier))
      (λ item. one-item item (asked s item.qualifier)) entry) field

pub across-by-offers : (s : Sides) (a : Atom) (q : Binary)
    → (across_by a (asked s a.qualifier) (itself q)
    || by_some s (across_by a (asked s a.qualifier)) (standing q) q.rest.provides)
    ≡ is_across s a q
across-by-offers s a q =
    ap (λ (b : Bool). across_by a (asked s a.qualifier) (itself q) || b)
    (sym (all-items s (across_by a (asked s a.qualifier)) (standing q) q.rest.provides))

pub taken-by-offers : (s : Sides) (t q : Binary)
    → (taken_by t (itself q) || by_some s (taken_by t) (standing q) q.rest.provides)
    ≡ meets s (asker t) (exactly t) q
unfolding asked
taken-by-offers s t q =
    ap (λ (b : Bool). taken_by t (itself q) || b)
    (sym (all-items s (taken_by t) (standing q) q.rest.provides))

-- a package would be taken for one of those that a clash hits
pub some-hit-taken : (s : Sides) (all : List Binary) (p : Binary) (a : Atom) (q : Binary)
    → list_any (λ t. hits_other s p a t && meets s (asker t) (exactly t) q) all
    ≡ list_any (λ t. meets s (asker t) (exactly t) q) (filter (hits_other s p a) all)
some-hit-taken s all p a q =
    sym (any-filter (λ (t : Binary). meets s (asker t) (exactly t) q) (hits_other s p a) all)

none-passes : {X : Type 0} (xs : List X) → list_all (λ (x : X). true) xs ≡ true
none-passes [] = refl
none-passes (x ∷ xs) = none-passes xs

-- a clash that is not replaced hits what it says
pub not-replaced : (s : Sides) (all : List Binary) (p : Binary) (a : Atom)
    → is_replaced s all p a ≡ false → is_unmistaken s all p a ≡ true
not-replaced s all p a is =
    subst (λ (b : Bool). list_all (λ q. not (b && is_mistaken s all p a q)) all ≡ true) (sym is)
    (none-passes all)

-- one that is replaced hits it too, if no package is mistaken
pub replaced-unmistaken : (s : Sides) (all : List Binary) (p : Binary) (a : Atom)
    → is_replaced s all p a ≡ true → list_all (λ q. not (is_mistaken s all p a q)) all ≡ true
    → is_unmistaken s all p a ≡ true
replaced-unmistaken s all p a is none =
    subst (λ (b : Bool). list_all (λ q. not (b && is_mistaken s all p a q)) all ≡ true) (sym is) none
