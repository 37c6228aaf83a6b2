-- The same name and version: an equivalence, which lists of items keep to.
use Rattle.std.proofs.Common.{◌≡◌, true, inl, inr, List, [], ◌∷◌, sym, ◌∙◌}
use Rattle.std.specs.Ordering.{eq_by_cmp}
use Rattle.std.specs.Str.{bytes_eq}
use Rattle.std.proofs.lemmas.Bool.{and_parts, and_from, or_cases, or_left, or_right}
use Rattle.std.proofs.lemmas.Slice.Eq.{bytes_eq-Decides}
use Rattle.deb_version.specs.Grammar.{text_cmp}
use Rattle.deb_version.specs.OrderLaws.{text_eq_equiv}
use Rattle.leg_laws.specs.Named.{Item, is_equal_item, is_listed}

pub equal_item-turned : (a b : Item) → is_equal_item a b ≡ true → is_equal_item b a ≡ true
unfolding is_equal_item
equal_item-turned a b e =
    let parts = and_parts (bytes_eq a.name b.name) (eq_by_cmp text_cmp a.version b.version) e in
    let name : a.name ≡ b.name = (bytes_eq-Decides a.name b.name).0 parts.0 in
    and_from (bytes_eq b.name a.name) (eq_by_cmp text_cmp b.version a.version)
    ((bytes_eq-Decides b.name a.name).1 (sym name))
    (sym (text_eq_equiv.symm a.version b.version) ∙ parts.1)

pub equal_item-joined : (a b c : Item) → is_equal_item a b ≡ true → is_equal_item b c ≡ true
    → is_equal_item a c ≡ true
unfolding is_equal_item
equal_item-joined a b c e f =
    let first = and_parts (bytes_eq a.name b.name) (eq_by_cmp text_cmp a.version b.version) e in
    let second = and_parts (bytes_eq b.name c.name) (eq_by_cmp text_cmp b.version c.version) f in
    let name : a.name ≡ c.name =
    (bytes_eq-Decides a.name b.name).0 first.0 ∙ (bytes_eq-Decides b.name c.name).0 second.0 in
    and_from (bytes_eq a.name c.name) (eq_by_cmp text_cmp a.version c.version)
    ((bytes_eq-Decides a.name c.name).1 name)
    (text_eq_equiv.congr a.version b.version c.version first.1 ∙ second.1)

pub equal_item-itself : (a : Item) → is_equal_item a a ≡ true
unfolding is_equal_item
equal_item-itself a =
    and_from (bytes_eq a.name a.name) (eq_by_cmp text_cmp a.version a.version)
    ((bytes_eq-Decides a.name a.name).1 (λ i. a.name)) (text_eq_equiv.refl a.version)

-- a list that has the one has the other
pub listed-same : (items : List Item) (a b : Item) → is_equal_item a b ≡ true
    → is_listed items a ≡ true → is_listed items b ≡ true
listed-same [] a b e h = h
listed-same (item ∷ items) a b e h =
    elim (or_cases (is_equal_item item a) _ h) [
      | inl here ↦ or_left (is_equal_item item b) _ (equal_item-joined item a b here e)
      | inr there ↦ or_right (is_equal_item item b) _ (listed-same items a b e there)
    ]
