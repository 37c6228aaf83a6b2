-- Lists that come to have what an archive has.
use Rattle.std.proofs.Common.{◌≡◌, ℕ, ◌+◌, Bool, true, false, ◌&&◌, ◌||◌, List, [], ◌∷◌, ◌++◌, refl, sym, ap, ◌∙◌, add-one}
use Rattle.std.proofs.lemmas.List.Folds.{list_any-append}
use Rattle.farm_model.specs.Common.{Universe, some_below, variant, variants, word_has}
use Rattle.farm_model.specs.declared.types.Variant.{Variant}
use Rattle.farm_model.proofs.BelowLaws.{some_below-same}
use Rattle.leg_laws.specs.Named.{Item, item_of, is_equal_item, is_listed}

or_nothing : (a : Bool) → (a || false) ≡ a
or_nothing true = refl
or_nothing false = refl

or_turned : (a b : Bool) → (a || b) ≡ (b || a)
or_turned true true = refl
or_turned true false = refl
or_turned false true = refl
or_turned false false = refl

-- a variant that is not in the word
pub none-held : (b c e : Bool) → c ≡ false → b ≡ (b || (c && e))
none-held true c e absent = refl
none-held false c e absent = sym (ap (λ (x : Bool). x && e) absent)

-- a variant that is in the word, behind others
pub one-held : (old new : List Item) (i is : Item) (c : Bool) → new ≡ old ++ i ∷ [] → i ≡ is
    → c ≡ true → (item : Item)
    → is_listed new item ≡ (is_listed old item || (c && is_equal_item is item))
one-held old new i is c more same present item =
    let held : is_equal_item i item ≡ (c && is_equal_item is item) =
    ap (λ (x : Item). is_equal_item x item) same
    ∙ sym (ap (λ (b : Bool). b && is_equal_item is item) present) in
    ap (λ (xs : List Item). is_listed xs item) more
    ∙ list_any-append (λ (other : Item). is_equal_item other item) old (i ∷ [])
    ∙ ap (λ (b : Bool). is_listed old item || b) (or_nothing (is_equal_item i item) ∙ held)

joined : (first mid new some now : Bool) → mid ≡ (first || some) → new ≡ (mid || now)
    → new ≡ (first || (now || some))
joined true mid new some now so_far last = last ∙ ap (λ (b : Bool). b || now) so_far
joined false mid new some now so_far last =
    last ∙ ap (λ (b : Bool). b || now) so_far ∙ or_turned some now

-- what one more number adds
pub some_more : (n : ℕ) (p : ℕ → Bool) (first mid new : Bool) → mid ≡ (first || some_below n p)
    → new ≡ (mid || p n) → new ≡ (first || some_below (n + 1) p)
some_more n p first mid new so_far last =
    rw add-one (joined first mid new (some_below n p) (p n) so_far last)

-- nothing yet
pub none_yet : (a : Bool) → a ≡ (a || false)
none_yet a = sym (or_nothing a)

-- some variant of a name passes, and is the item
abbrev pub some_named : Universe → (Variant → Bool) → Item → ℕ → Bool
some_named u test item n =
    some_below (variants u n)
    (λ b. test (variant n b) && is_equal_item (item_of u (variant n b)) item)

-- what one more name adds, whose word has the variants that pass
pub name_more : (u : Universe) (test : Variant → Bool) (item : Item) (n word : ℕ) (mid new : Bool)
    → ((b : ℕ) → word_has word b ≡ test (variant n b))
    → mid ≡ some_below n (some_named u test item)
    → new ≡ (mid || some_below (variants u n)
    (λ b. word_has word b && is_equal_item (item_of u (variant n b)) item))
    → new ≡ some_below (n + 1) (some_named u test item)
name_more u test item n word mid new has so_far last =
    some_more n (some_named u test item) false mid new so_far
    (last
    ∙ ap (λ (b : Bool). mid || b)
    (some_below-same (variants u n)
    (λ b. word_has word b && is_equal_item (item_of u (variant n b)) item)
    (λ b. test (variant n b) && is_equal_item (item_of u (variant n b)) item)
    (λ k lt. ap (λ (b : Bool). b && is_equal_item (item_of u (variant n k)) item) (has k))))
