-- The lists of variants so far are what the items so far say.
use Rattle.std.proofs.Common.{◌≡◌, ℕ, ◌<◌, ◌≤◌, Bool, true, false, nat_lt, List, [], ◌∷◌, ◌++◌, length, refl, sym, ap, subst, ◌∙◌, true≢false, eqb, arith, All, Some, Ok, Err, zero, suc, Option, None, Result, inl, inr}
use Rattle.std.specs.Int.{bit_at}
use Rattle.std.specs.Prelude.{slice_get}
use Rattle.std.proofs.lemmas.Bool.{ltb-true, ltb-false}
use Rattle.std.proofs.lemmas.List.{get_or_past}
use Rattle.std.proofs.lemmas.List.Elements.{All-nil, All-push}
use Rattle.std.proofs.lemmas.Nat.Bits.{bit_at-zero}
use Rattle.deb_text.specs.Steps.{answer, or_else, first_fault, judged, steps, good_before, goods, own_or, item_fault}
use Rattle.deb_text.proofs.StepLaws.{steps-judged}
use Rattle.deb_relation.specs.Relations.{Entry}
use Rattle.farm_model.specs.Packages.{same, contains, has_bit}
use Rattle.farm_model.specs.declared.types.Variant.{Variant}
use Rattle.farm_model.proofs.VariantLaws.{same-refl, contained}
use Rattle.item_index.proofs.ItemLaws.{any-at}
use Rattle.farm_universe.specs.declared.error.TheConstants.{TWICE}
use Rattle.farm_universe.specs.declared.list.VariantList.{VariantList}
use Rattle.farm_universe.specs.FarmSteps.{add_variant, add_item, word_set}
use Rattle.farm_universe.specs.FarmView.{IsTableVariant, IsPlace, AreTableWords, IsOnce, AreDifferent, AreListed}
use Rattle.farm_universe.specs.ListText.{variant_at, twice, variants_in, variant_words}
use Rattle.farm_universe.specs.PackagesText.{PackageTable}
use Rattle.farm_universe.proofs.ArchiveLaws.{length-words_of, words_of-push, get_or-words_of, bit_at-word_of}
use Rattle.farm_universe.proofs.ListFacts.{slice_get-push}
use Rattle.farm_universe.proofs.ToldLaws.{read_step-keeps}

-- ---- the words so far

-- the bit of a variant says whether it is in the list
pub has_bit-words_of : (n : ℕ) (vs : List Variant) (v : Variant) → v.name < n
    → has_bit (variant_words n vs) v ≡ contains vs v
unfolding has_bit same
has_bit-words_of n vs v lt =
    ap (λ word. eqb (bit_at word v.bit) 1) (get_or-words_of n vs v.name lt)
    ∙ bit_at-word_of vs v.name v.bit

pub has_bit-past : (words : List ℕ) (v : Variant) → length words ≤ v.name
    → has_bit words v ≡ false
unfolding has_bit
has_bit-past words v past = rw (get_or_past words v.name 0 past, bit_at-zero v.bit) refl

module _ (table : PackageTable) (list : VariantList) (is : AreListed table list) where
  pub long : length list.words.items ≡ length table.names
  long = ap length is.words ∙ length-words_of (length table.names) list.variants.items

  pub has_bit-listed : (v : Variant) → v.name < length table.names
      → has_bit list.words.items v ≡ contains list.variants.items v
  has_bit-listed v lt =
      ap (λ words. has_bit words v) is.words
      ∙ has_bit-words_of (length table.names) list.variants.items v lt

  -- the words have bits of the table's variants alone
  pub AreWords-listed : AreTableWords table list.words.items
  AreWords-listed = record { paired = long; known = known } where
    known : (v : Variant) → has_bit list.words.items v ≡ true → IsTableVariant table v
    known v set = by (nat_lt v.name (length table.names)) refl where
      by : (b : Bool) → nat_lt v.name (length table.names) ≡ b → IsTableVariant table v
      by true e =
          (contained (IsPlace table) list.variants.items v is.known
          (sym (has_bit-listed v (ltb-true _ _ e)) ∙ set)).listed
      by false e =
          absurd (true≢false (sym set
          ∙ has_bit-past list.words.items v
          (omega (arith, long, ltb-false v.name (length table.names) e))))

IsOnce-push : (vs : List Variant) (v : Variant) → IsOnce vs → contains vs v ≡ false
    → IsOnce (vs ++ v ∷ [])
IsOnce-push vs v once none i j w wi wj =
    elim (slice_get-push vs v i w wi) [
      | inl a ↦ elim (slice_get-push vs v j w wj) [
        | inl b ↦ once i j w a b
        | inr b ↦ absurd (there i a b.1)
      ]
      | inr a ↦ elim (slice_get-push vs v j w wj) [
        | inl b ↦ absurd (there j b a.1)
        | inr b ↦ a.0 ∙ sym b.0
      ]
    ]
  where
    there : (k : ℕ) → slice_get vs k ≡ Some w → v ≡ w → ⊥
    there k at is =
        true≢false (sym (any-at (λ x. same x v) vs k w at
        (subst (λ x. same x v ≡ true) is (same-refl v))) ∙ none)

-- one variant more, with its bit
pub AreListed-push : (table : PackageTable) (list new : VariantList) (v : Variant)
    → AreListed table list → IsPlace table v → contains list.variants.items v ≡ false
    → new.variants.items ≡ list.variants.items ++ v ∷ []
    → new.words.items ≡ word_set list.words.items v → AreListed table new
AreListed-push table list new v is place none variants words = record {
  words =
      words ∙ ap (λ ws. word_set ws v) is.words
      ∙ sym (words_of-push (length table.names) list.variants.items v place.name)
      ∙ ap (variant_words (length table.names)) (sym variants);
  known =
      subst (All (IsPlace table)) (sym variants)
      (All-push (IsPlace table) list.variants.items v is.known place);
  once = subst IsOnce (sym variants) (IsOnce-push list.variants.items v is.once none);
}

IsOnce-none : IsOnce []
IsOnce-none zero j v vi vj = absurd cc
IsOnce-none (suc i) j v vi vj = absurd cc

-- a list without a variant
pub AreListed-none : (table : PackageTable) (list : VariantList) → list.variants.items ≡ []
    → list.words.items ≡ variant_words (length table.names) [] → AreListed table list
AreListed-none table list none words = record {
  words = words ∙ ap (variant_words (length table.names)) (sym none);
  known = subst (All (IsPlace table)) (sym none) (All-nil (IsPlace table));
  once = subst IsOnce (sym none) IsOnce-none;
}

-- an item whose variant stands in the list, and one whose variant does not
module _ (table : PackageTable) (vs : List Variant) (entry : Entry) (v : Variant)
    (read : variant_at table entry ≡ Ok v) where
  pub item-twice : contains vs v ≡ true → add_item table vs entry ≡ Err TWICE
  unfolding add_item add_variant
  item-twice there = rw (read, there) refl

  pub item-new : contains vs v ≡ false → add_item table vs entry ≡ Ok (vs ++ v ∷ [])
  unfolding add_item add_variant
  item-new none = rw (read, none) refl

-- the same where words tell it
module _ (table : PackageTable) (list : VariantList) (entry : Entry) (v : Variant)
    (is : AreListed table list) (place : IsPlace table v) (read : variant_at table entry ≡ Ok v)
  where
    pub add_item-twice : has_bit list.words.items v ≡ true
        → add_item table list.variants.items entry ≡ Err TWICE
    add_item-twice set =
        item-twice table list.variants.items entry v read
        (sym (has_bit-listed table list is v place.name) ∙ set)

    pub add_item-new : has_bit list.words.items v ≡ false
        → add_item table list.variants.items entry ≡ Ok (list.variants.items ++ v ∷ [])
    add_item-new free =
        item-new table list.variants.items entry v read
        (sym (has_bit-listed table list is v place.name) ∙ free)

-- ---- lists without words

pub AreDifferent-none : (table : PackageTable) (vs : List Variant) → vs ≡ []
    → AreDifferent table vs
AreDifferent-none table vs none = record {
  known = subst (All (IsPlace table)) (sym none) (All-nil (IsPlace table));
  once = subst IsOnce (sym none) IsOnce-none;
}

pub AreDifferent-push : (table : PackageTable) (vs new : List Variant) (v : Variant)
    → AreDifferent table vs → IsPlace table v → contains vs v ≡ false → new ≡ vs ++ v ∷ []
    → AreDifferent table new
AreDifferent-push table vs new v are place none is = record {
  known = subst (All (IsPlace table)) (sym is) (All-push (IsPlace table) vs v are.known place);
  once = subst IsOnce (sym is) (IsOnce-push vs v are.once none);
}

pub AreDifferent-listed : (table : PackageTable) (list : VariantList) → AreListed table list
    → AreDifferent table list.variants.items
AreDifferent-listed table list are = record { known = are.known; once = are.once }

-- item by item the reader gives what all of them say
pub steps-variants_in : (table : PackageTable) (entries : List Entry)
    → steps (add_item table) [] entries ≡ variants_in table entries
unfolding variants_in add_item add_variant
steps-variants_in table entries =
    steps-judged (add_item table) (item_fault (variant_at table) twice) (goods (variant_at table))
    (λ before entry. read_step-keeps (variant_at table) add_variant twice (λ vs. vs) before entry
    (λ v is. refl))
    entries

-- ---- outputs

-- a list with an item gives a variant
pub outputs-there : (table : PackageTable) (entries : List Entry) (vs : List Variant)
    → eqb (length entries) 0 ≡ false → variants_in table entries ≡ Ok vs → 0 < length vs
unfolding variants_in judged
outputs-there table [] vs some is = absurd cc
outputs-there table (e ∷ es) vs some is =
    by (variant_at table e)
    (first_fault (item_fault (variant_at table) twice) (e ∷ []) es) is
  where
    by : (r : Result Variant ℕ) (o : Option ℕ)
        → answer (or_else (own_or r (twice [])) o) (good_before r (goods (variant_at table) es))
        ≡ Ok vs → 0 < length vs
    by (Err code) o h = absurd cc
    by (Ok v) (Some code) h = absurd cc
    by (Ok v) None h =
        let same : (v ∷ goods (variant_at table) es) ≡ vs = cc in
        subst (λ (ws : List Variant). 0 < length ws) same (omega arith)
