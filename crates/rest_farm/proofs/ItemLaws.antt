-- Lists that are asked by name.
use Rattle.std.proofs.Common.{◌≡◌, ℕ, Bool, true, false, List, [], inl, inr, Option, None, Some, refl, sym, ap, ◌∙◌, subst, true≢false}
use Rattle.std.specs.List.{list_any, slice_get}
use Rattle.std.specs.Option.{option_map_or}
use Rattle.std.specs.Prelude.{slice_index_or}
use Rattle.std.specs.Ordering.{eq_by_cmp}
use Rattle.std.specs.Str.{bytes_eq}
use Rattle.std.proofs.lemmas.Bool.{and_parts, cases_Bool}
use Rattle.deb_text.proofs.ListLaws.{bytes-same}
use Rattle.deb_version.specs.Grammar.{text_cmp}
use Rattle.farm_model.specs.Common.{Universe, package_of, facts}
use Rattle.farm_model.specs.declared.types.Variant.{Variant}
use Rattle.item_index.specs.declared.item.Item.{Item as Place}
use Rattle.item_index.specs.Items.{item, listed, IsIn}
use Rattle.item_index.proofs.ItemLaws.{any-at, any-found}
use Rattle.leg_laws.specs.Named.{Item, item_of, is_equal_item}
use Rattle.rest_farm.specs.Items.{item_named, is_at, is_item, is_name, NoneAt, AreKeyed}

-- an item by its name and its version
pub named-same : (name version : List ℕ) (i : Item) → name ≡ i.name → version ≡ i.version
    → item_named name version ≡ i
named-same name version i names versions = λ j. record { name = names j; version = versions j }

-- a variant by its name and its version
pub variant-named : (u : Universe) (v : Variant) (name version : List ℕ)
    → name ≡ slice_index_or u.names v.name [] → version ≡ (package_of u v).version
    → item_named name version ≡ item_of u v
unfolding item_of facts
variant-named u v name version names versions =
    λ j. record { name = names j; version = versions j }

-- equal items have the same name
pub item-name : (wanted other : Item) → is_item wanted other ≡ true → other.name ≡ wanted.name
unfolding is_equal_item
item-name wanted other e =
    bytes-same other.name wanted.name
    (and_parts (bytes_eq other.name wanted.name) (eq_by_cmp text_cmp other.version wanted.version)
    e).0

pub name-name : (wanted other : List ℕ) → is_name wanted other ≡ true → other ≡ wanted
name-name wanted other e = bytes-same other wanted e

module _ {X : Type 0} (test : X → Bool) where
  -- where the element at a place passes, some element does
  pub at-listed : (xs : List X) (k : ℕ) → is_at test xs k ≡ true → list_any test xs ≡ true
  at-listed xs k e = by (slice_get xs k) refl e where
    by : (at : Option X) → slice_get xs k ≡ at → option_map_or test at false ≡ true
        → list_any test xs ≡ true
    by None is e = absurd cc
    by (Some x) is e = any-at test xs k x is e

  at-passes : (xs : List X) (k : ℕ) (x : X) → slice_get xs k ≡ Some x → test x ≡ true
      → is_at test xs k ≡ true
  at-passes xs k x at e =
      ap (λ (o : Option X). option_map_or test o false) at ∙ e

  module _ (key : X → List ℕ) (name : List ℕ) (only : (x : X) → test x ≡ true → key x ≡ name)
      (xs : List X) (lists : List (List (Place ℕ))) (are : AreKeyed key xs lists) where
    -- where none under the name passes, none does
    none-listed : NoneAt test xs (listed lists name) → list_any test xs ≡ false
    none-listed none = elim (cases_Bool (list_any test xs)) [
      | inl some ↦ absurd (never some)
      | inr nothing ↦ nothing
    ]
      where
        never : list_any test xs ≡ true → ⊥
        never some =
            let f = any-found test xs some in
            let there = subst (λ (text : List ℕ). IsIn (listed lists text) (item f.0 0 0))
            (only f.1 f.3) (are f.0 f.1 f.2) in
            true≢false (sym (at-passes xs f.0 f.1 f.2 f.3)
            ∙ none there.0 (item f.0 0 0) there.1)

    -- what is told of the places under the name
    pub has-told : (read : List X) (places : List (Place ℕ)) (told : Bool) → read ≡ xs
        → places ≡ listed lists name → (told ≡ true → list_any test read ≡ true)
        → (told ≡ false → NoneAt test read places) → told ≡ list_any test xs
    has-told read places true same at found none =
        sym (subst (λ (ys : List X). list_any test ys ≡ true) same (found refl))
    has-told read places false same at found none =
        sym (none-listed (subst (λ (ys : List X). NoneAt test ys (listed lists name)) same
        (subst (λ (ps : List (Place ℕ)). NoneAt test read ps) at (none refl))))
