-- Items under names.
use Rattle.std.proofs.Common.{◌≡◌, ℕ, ◌+◌, ◌<◌, ◌++◌, List, [], ◌∷◌, length, length-append, length-set, get_or, Some, inl, inr, sym, ap, subst, ◌∙◌, arith}
use Rattle.std.specs.List.{slice_get}
use Rattle.std.proofs.Math.Seq.{get_or-append_seam, get_or-set_same, get_or-set_other}
use Rattle.std.proofs.lemmas.Bool.{cases_eq, cases_lt}
use Rattle.std.proofs.lemmas.List.{get_or_append_left}
use Rattle.std.proofs.lemmas.Nat.{mod_below}
use Rattle.std.proofs.lemmas.Option.{slice_get_within, slice_get-get_or, get_or_from_slice_get}
use Rattle.item_index.specs.declared.item.Item.{Item}
use Rattle.item_index.specs.Items.{number_behind, list_of, listed, with_listed, IsIn, IsListed, KeepsItems}

module _ {O : Type 0} where
  -- a list keeps its items as one more comes
  pub is_in_more : (items : List (Item O)) (new at : Item O) → IsIn items at
      → IsIn (items ++ new ∷ []) at
  is_in_more items new at there =
      let lt = slice_get_within items there.0 at there.1 in
      let long : there.0 < length (items ++ new ∷ []) =
      omega (arith, length-append items (new ∷ [])) in (
        there.0,
        slice_get-get_or (items ++ new ∷ []) there.0 at long
            ∙ ap Some (get_or_append_left items (new ∷ []) at there.0 lt
            ∙ get_or_from_slice_get items there.0 at at there.1),
      )

  pub is_in_last : (items : List (Item O)) (new : Item O) → IsIn (items ++ new ∷ []) new
  is_in_last items new =
      let long : length items < length (items ++ new ∷ []) =
      omega (arith, length-append items (new ∷ [])) in (
        length items,
        slice_get-get_or (items ++ new ∷ []) (length items) new long
            ∙ ap Some (get_or-append_seam items new [] new),
      )

  -- one more item under a name: what was listed still is, and it is listed
  module _ (lists : List (List (Item O))) (some : 0 < length lists) (name : List ℕ) (new : Item O)
    where
      abbrev more : List (List (Item O))
      more = with_listed lists name new

      pub long : length more ≡ length lists
      long = length-set lists (list_of (length lists) name) _

      abbrev place : List ℕ → ℕ
      place text = list_of (length lists) text

      -- the same number of lists, so the same place
      at_more : (text : List ℕ) → listed more text ≡ get_or more (place text) []
      at_more text = ap (λ k. get_or more (list_of k text) []) long

      within : (text : List ℕ) → place text < length lists
      within text = mod_below (number_behind 0 text) (length lists) some

      there : listed more name ≡ listed lists name ++ new ∷ []
      there = at_more name ∙ get_or-set_same lists (place name) _ [] (within name)

      pub IsKept-with_listed : KeepsItems lists more
      IsKept-with_listed text at is =
          elim (cases_eq (place text) (place name)) [
            | inl same ↦
                let one : listed more text ≡ listed lists text ++ new ∷ [] =
                at_more text ∙ ap (λ k. get_or more k []) same
                ∙ get_or-set_same lists (place name) _ [] (within name)
                ∙ ap (λ k. get_or lists k [] ++ new ∷ []) (sym same) in
                subst (λ items. IsIn items at) (sym one) (is_in_more (listed lists text) new at is)
            | inr other ↦
                subst (λ items. IsIn items at)
                (sym (at_more text
                ∙ get_or-set_other lists (place name) (place text) _ [] other)) is
          ]

      pub IsListed-with_listed : IsListed more name new
      IsListed-with_listed = subst (λ items. IsIn items new) (sym there)
          (is_in_last (listed lists name) new)

-- what holds of each element before a place holds of each before the next
pub before_next : {A : Type 0} (P Q : ℕ → A → Type 0) (xs : List A) (n : ℕ) (y : A)
    → slice_get xs n ≡ Some y → ((i : ℕ) (x : A) → P i x → Q i x)
    → ((i : ℕ) (x : A) → i < n → slice_get xs i ≡ Some x → P i x) → Q n y
    → (i : ℕ) (x : A) → i < n + 1 → slice_get xs i ≡ Some x → Q i x
before_next {A} P Q xs n y at on before here i x lt is =
    elim (cases_lt i n) [
      | inl old ↦ on i x (before i x old is)
      | inr ge ↦
          let last : n ≡ i = omega arith in
          let same : y ≡ x =
          sym (get_or_from_slice_get xs n y y at) ∙ ap (λ k. get_or xs k y) last
          ∙ get_or_from_slice_get xs i x y is in
          subst (λ k. Q k x) last (subst (Q n) same here)
    ]
