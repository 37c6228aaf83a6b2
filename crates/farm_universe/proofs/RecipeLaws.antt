-- One recipe more: what is true of the recipes so far stays true.
use Rattle.std.proofs.Common.{◌≡◌, ℕ, zero, suc, ◌+◌, ◌<◌, ◌≤◌, Bool, true, false, List, [], ◌∷◌, ◌++◌, map, sum, drop, Option, None, length, length-append, length-set, get_or, refl, sym, ap, subst, ◌∙◌, true≢false, eqb, arith, All, Some, Ok, codes, inl, inr, ◌⊎◌, ◌||◌, ◌&&◌}
use Rattle.std.specs.Cmp.{both_ways as same_tests}
use Rattle.std.specs.Int.{bit_at}
use Rattle.std.specs.Prelude.{slice_get}
use Rattle.std.specs.List.{list_any}
use Rattle.std.proofs.Math.Bool.{or_assoc, or-false}
use Rattle.std.proofs.lemmas.Option.{none-some}
use Rattle.std.proofs.lemmas.Bool.{eqb-true, eqb-false, or_parts, or_right}
use Rattle.std.proofs.lemmas.Grind.{get_or-set_at}
use Rattle.std.proofs.lemmas.List.{get_or-set_other, map_push, at_drop_more}
use Rattle.std.proofs.lemmas.List.Elements.{All-nil, All-cons, All-push, All-head, All-tail}
use Rattle.std.proofs.lemmas.List.Folds.{list_any-append}
use Rattle.std.proofs.lemmas.List.Sums.{fold-append}
use Rattle.deb_stanza.specs.Stanza.{Paragraph, value_of}
use Rattle.deb_text.specs.Steps.{◌>>=◌}
use Rattle.deb_text.proofs.ListLaws.{bytes-same}
use Rattle.std.specs.Str.{bytes_eq}
use Rattle.farm_model.specs.Common.{same, contains, has_bit, Recipe}
use Rattle.farm_model.specs.declared.types.Variant.{Variant}
use Rattle.farm_universe.specs.declared.recipes.RecipeList.{RecipeList}
use Rattle.farm_universe.specs.Fields.{refused_if}
use Rattle.farm_universe.specs.declared.error.TheConstants.{TAKEN}
use Rattle.farm_universe.specs.FarmSteps.{word_set, taken_with}
use Rattle.item_index.specs.Items.{item, listed, KeepsItems, IsListed}
use Rattle.item_index.specs.declared.item.Item.{Item}
use Rattle.farm_universe.specs.Among.{there_and_passes}
use Rattle.farm_universe.specs.FarmView.{AreNamed, IsPlace, AreNew, IsNew, IsRecipe, recipe_outputs, GivesOnce, AreTaken, AreRecipes}
use Rattle.farm_universe.specs.Land.{Land}
use Rattle.farm_universe.specs.ListText.{with_bit}
use Rattle.farm_universe.specs.RecipeText.{outputs_at, is_taken, new_outputs, build_entries}
use Rattle.farm_universe.proofs.ArchiveLaws.{bit-with_bit}
use Rattle.farm_universe.proofs.ListFacts.{slice_get-push}
use Rattle.item_index.proofs.ItemLaws.{any-at, any-found}
use Rattle.farm_model.proofs.VariantLaws.{same-refl}

-- ---- names

-- a recipe of this name is among those listed under it
pub AreNamed-none : (lists : List (List (Item ℕ))) (rs : List Recipe) → rs ≡ [] → AreNamed lists rs
AreNamed-none lists rs none k r at =
    absurd (none-some r (sym (ap (λ xs. slice_get xs k) none) ∙ at))

pub AreNamed-push : (lists more : List (List (Item ℕ))) (rs new : List Recipe) (r : Recipe)
    → AreNamed lists rs → KeepsItems lists more → IsListed more r.name (item (length rs) 0 0)
    → new ≡ rs ++ r ∷ [] → AreNamed more new
AreNamed-push lists more rs new r are kept there is k q at =
    elim (slice_get-push rs r k q (sym (ap (λ xs. slice_get xs k) is) ∙ at)) [
      | inl before ↦ kept q.name (item k 0 0) (are k q before)
      | inr last ↦
          subst (λ n. IsListed more q.name (item n 0 0)) (sym last.0)
          (subst (λ (x : Recipe). IsListed more x.name (item (length rs) 0 0)) last.1 there)
    ]

-- the recipe of the number that an item has goes by the name
abbrev pub has_name : List Recipe → List ℕ → Item ℕ → Bool
has_name rs name at = there_and_passes (λ (r : Recipe). bytes_eq name r.name)
    (slice_get rs at.owner)

pub named_is : (lists : List (List (Item ℕ))) (rs : List Recipe) (name : List ℕ)
    → AreNamed lists rs
    → list_any (has_name rs name) (listed lists name)
    ≡ list_any (λ (r : Recipe). bytes_eq name r.name) rs
named_is lists rs name are = same_tests _ _ to from where
  to : list_any (has_name rs name) (listed lists name) ≡ true
      → list_any (λ (r : Recipe). bytes_eq name r.name) rs ≡ true
  to some =
      let found = any-found (has_name rs name) (listed lists name) some in
      by found.1 (slice_get rs found.1.owner) refl found.3
    where
      by : (at : Item ℕ) (o : Option Recipe) → slice_get rs at.owner ≡ o
          → has_name rs name at ≡ true → list_any (λ (r : Recipe). bytes_eq name r.name) rs ≡ true
      by at None e is =
          absurd (true≢false (sym is ∙ ap (there_and_passes (λ (r : Recipe). bytes_eq name r.name))
          e))
      by at (Some r) e is =
          any-at (λ (q : Recipe). bytes_eq name q.name) rs at.owner r e
          (sym (ap (there_and_passes (λ (q : Recipe). bytes_eq name q.name)) e) ∙ is)

  from : list_any (λ (r : Recipe). bytes_eq name r.name) rs ≡ true
      → list_any (has_name rs name) (listed lists name) ≡ true
  from some =
      let found = any-found (λ (r : Recipe). bytes_eq name r.name) rs some in
      let there = are found.0 found.1 found.2 in
      let same : name ≡ found.1.name = bytes-same name found.1.name found.3 in
      let at = subst (λ n. IsListed lists n (item found.0 0 0)) (sym same) there in
      any-at (has_name rs name) (listed lists name) at.0 (item found.0 0 0) at.1
      (rw (found.2, found.3) refl)

-- ---- words with more bits

has_bit-word_set : (words : List ℕ) (v w : Variant) → v.name < length words
    → has_bit (word_set words v) w ≡ (has_bit words w || same v w)
unfolding has_bit same
has_bit-word_set words v w lt = by (eqb v.name w.name) refl where
  new : ℕ
  new = with_bit (get_or words v.name 0) v.bit

  by : (b : Bool) → eqb v.name w.name ≡ b
      → eqb (bit_at (get_or (word_set words v) w.name 0) w.bit) 1
      ≡ (eqb (bit_at (get_or words w.name 0) w.bit) 1 || (b && eqb v.bit w.bit))
  by true e =
      let is = eqb-true v.name w.name e in
      ap (λ word. eqb (bit_at word w.bit) 1)
      (get_or-set_at words v.name w.name new 0 (sym is) lt
      ∙ ap (λ k. with_bit (get_or words k 0) v.bit) is)
      ∙ bit-with_bit (get_or words w.name 0) v.bit w.bit
  by false e =
      ap (λ word. eqb (bit_at word w.bit) 1)
      (get_or-set_other words v.name w.name new 0 (λ q. eqb-false v.name w.name e (sym q)))
      ∙ sym (or-false (eqb (bit_at (get_or words w.name 0) w.bit) 1))

length-word_set : (words : List ℕ) (v : Variant) → length (word_set words v) ≡ length words
length-word_set words v = length-set words v.name (with_bit (get_or words v.name 0) v.bit)

pub length-taken_with : (vs : List Variant) (words : List ℕ)
    → length (taken_with words vs) ≡ length words
length-taken_with [] words = refl
length-taken_with (v ∷ vs) words =
    length-taken_with vs (word_set words v) ∙ length-word_set words v

-- a loop that sets one bit after the other
pub taken-goes : (vs : List Variant) (i : ℕ) (v : Variant) (words new total : List ℕ)
    → i < length vs → v ≡ get_or vs i v → new ≡ word_set words v
    → taken_with words (drop i vs) ≡ total → taken_with new (drop (i + 1) vs) ≡ total
taken-goes vs i v words new total lt at is so_far =
    ap (λ ws. taken_with ws (drop (i + 1) vs)) (is ∙ ap (word_set words) at)
    ∙ sym (at_drop_more (taken_with words) vs i v lt) ∙ so_far

has_bit-taken_with : (vs : List Variant) (words : List ℕ) (w : Variant)
    → All (λ v. v.name < length words) vs
    → has_bit (taken_with words vs) w ≡ (has_bit words w || contains vs w)
has_bit-taken_with [] words w all = sym (or-false (has_bit words w))
has_bit-taken_with (v ∷ vs) words w all =
    has_bit-taken_with vs (word_set words v) w
    (subst (λ n. All (λ v. v.name < n) vs) (sym (length-word_set words v))
    (All-tail (λ v. v.name < length words) v vs all))
    ∙ ap (λ b. b || contains vs w)
    (has_bit-word_set words v w (All-head (λ v. v.name < length words) v vs all))
    ∙ or_assoc (has_bit words w) (same v w) (contains vs w)

-- ---- no output twice

outputs_of-push : (rs : List Recipe) (r : Recipe) (q i : ℕ) (v : Variant)
    → slice_get (recipe_outputs (rs ++ r ∷ []) q) i ≡ Some v
    → (slice_get (recipe_outputs rs q) i ≡ Some v)
    ⊎ ((q ≡ length rs) × (slice_get r.outputs i ≡ Some v))
outputs_of-push [] r zero i v at = inr (refl, at)
outputs_of-push [] r (suc q) i v at = absurd (nothing i at) where
  nothing : (i : ℕ) → slice_get (recipe_outputs [] q) i ≡ Some v → ⊥
  nothing zero e = cc
  nothing (suc i) e = cc
outputs_of-push (x ∷ xs) r zero i v at = inl at
outputs_of-push (x ∷ xs) r (suc q) i v at =
    elim (outputs_of-push xs r q i v at) [
      | inl before ↦ inl before
      | inr last ↦ inr (ap suc last.0, last.1)
    ]

-- an output of a recipe is given by one of them
given : (rs : List Recipe) (q i : ℕ) (v : Variant) → slice_get (recipe_outputs rs q) i ≡ Some v
    → list_any (λ r. contains r.outputs v) rs ≡ true
given [] zero zero v at = absurd cc
given [] zero (suc i) v at = absurd cc
given [] (suc q) zero v at = absurd cc
given [] (suc q) (suc i) v at = absurd cc
given (x ∷ xs) zero i v at =
    rw (any-at (λ w. same w v) x.outputs i v at (same-refl v)) refl
given (x ∷ xs) (suc q) i v at = or_right (contains x.outputs v) _ (given xs q i v at)

-- what no item passes, no item at an index passes
none-at : {X : Type 0} (p : X → Bool) (xs : List X) (i : ℕ) (x : X) → list_any p xs ≡ false
    → slice_get xs i ≡ Some x → p x ≡ false
none-at p [] zero x none at = absurd cc
none-at p [] (suc i) x none at = absurd cc
none-at p (y ∷ ys) zero x none at =
    let is : y ≡ x = cc in
    subst (λ z. p z ≡ false) is (or_parts (p y) (list_any p ys) none).0
none-at p (y ∷ ys) (suc i) x none at =
    none-at p ys i x (or_parts (p y) (list_any p ys) none).1 at

module _ (l : Land) (rs : List Recipe) (r : Recipe) (new : AreNew l rs r.outputs) where
  -- an output of the new recipe is none of an earlier one
  apart : (q i j : ℕ) (v : Variant) → slice_get (recipe_outputs rs q) i ≡ Some v
      → slice_get r.outputs j ≡ Some v → ⊥
  apart q i j v before here =
      let free = none-at (is_taken l.initial rs) r.outputs j v new.free here in
      let parts = or_parts (has_bit l.initial v) (list_any (λ r. contains r.outputs v) rs) free in
      true≢false (sym (given rs q i v before) ∙ parts.1)

  GivesOnce-push : GivesOnce rs → GivesOnce (rs ++ r ∷ [])
  GivesOnce-push once p q i j v vi vj =
      elim (outputs_of-push rs r p i v vi) [
        | inl a ↦ elim (outputs_of-push rs r q j v vj) [
          | inl b ↦ once p q i j v a b
          | inr b ↦ absurd (apart p i j v a b.1)
        ]
        | inr a ↦ elim (outputs_of-push rs r q j v vj) [
          | inl b ↦ absurd (apart q j i v b a.1)
          | inr b ↦ (a.0 ∙ sym b.0, new.outputs.once i j v a.1 b.1)
        ]
      ]

-- ---- the taken variants

-- one of these variants is taken where its bit says so
pub any-taken : (l : Land) (rs : List Recipe) (words : List ℕ) (vs : List Variant)
    → AreTaken l rs words → All (IsPlace l.table) vs
    → list_any (has_bit words) vs ≡ list_any (is_taken l.initial rs) vs
any-taken l rs words [] is places = refl
any-taken l rs words (v ∷ vs) is places =
    rw (
      is.bits v (All-head (IsPlace l.table) v vs places).name,
      any-taken l rs words vs is (All-tail (IsPlace l.table) v vs places),
    ) refl

-- outputs that were read, and whether one of them is taken
pub new_outputs-of : (l : Land) (rs : List Recipe) (p : Paragraph) (vs : List Variant) (b : Bool)
    → outputs_at l.table (value_of p (codes "Outputs")) ≡ Ok vs
    → list_any (is_taken l.initial rs) vs ≡ b
    → new_outputs l rs p ≡ (refused_if b TAKEN >>= λ free. Ok vs)
new_outputs-of l rs p vs b read is = rw (read, is) refl

pub AreTaken-none : (l : Land) → length l.initial ≡ length l.table.names → AreTaken l [] l.initial
AreTaken-none l paired = record {
  paired = paired;
  bits = λ v lt. sym (or-false (has_bit l.initial v));
}

pub names-within : (l : Land) (n : ℕ) (vs : List Variant) → n ≡ length l.table.names
    → All (IsPlace l.table) vs → All (λ v. v.name < n) vs
names-within l n [] same places = All-nil (λ v. v.name < n)
names-within l n (v ∷ vs) same places =
    All-cons (λ v. v.name < n) v vs
    (omega (arith, same, (All-head (IsPlace l.table) v vs places).name))
    (names-within l n vs same (All-tail (IsPlace l.table) v vs places))

pub bits-within : (l : Land) (vs : List Variant) → All (IsPlace l.table) vs
    → All (λ v. v.bit < 64) vs
bits-within l [] places = All-nil (λ v. v.bit < 64)
bits-within l (v ∷ vs) places =
    All-cons (λ v. v.bit < 64) v vs (All-head (IsPlace l.table) v vs places).bit
    (bits-within l vs (All-tail (IsPlace l.table) v vs places))

AreTaken-push : (l : Land) (rs : List Recipe) (r : Recipe) (words : List ℕ) → AreTaken l rs words
    → All (IsPlace l.table) r.outputs → AreTaken l (rs ++ r ∷ []) (taken_with words r.outputs)
AreTaken-push l rs r words is places = record {
  paired = length-taken_with r.outputs words ∙ is.paired;
  bits = λ v lt.
      has_bit-taken_with r.outputs words v
      (names-within l (length words) r.outputs is.paired places)
      ∙ ap (λ b. b || contains r.outputs v) (is.bits v lt)
      ∙ or_assoc (has_bit l.initial v) (list_any (λ r. contains r.outputs v) rs)
      (contains r.outputs v)
      ∙ ap (λ b. has_bit l.initial v || b)
      (ap (λ b. list_any (λ r. contains r.outputs v) rs || b)
      (sym (or-false (contains r.outputs v)))
      ∙ sym (list_any-append (λ r. contains r.outputs v) rs (r ∷ [])));
}

-- ---- the recipes with one more

all-new : (l : Land) (rs : List Recipe) (vs : List Variant)
    → list_any (is_taken l.initial rs) vs ≡ false → All (λ v. has_bit l.initial v ≡ false) vs
all-new l rs [] none = All-nil (λ v. has_bit l.initial v ≡ false)
all-new l rs (v ∷ vs) none =
    let parts = or_parts (is_taken l.initial rs v) (list_any (is_taken l.initial rs) vs) none in
    All-cons (λ v. has_bit l.initial v ≡ false) v vs
    (or_parts (has_bit l.initial v) (list_any (λ r. contains r.outputs v) rs) parts.0).0
    (all-new l rs vs parts.1)

IsRecipe-new : (l : Land) (rs : List Recipe) (r : Recipe) → IsNew l rs r → IsRecipe l r
IsRecipe-new l rs r is = record {
  there = is.new.outputs.there;
  known = is.new.outputs.known;
  new = all-new l rs r.outputs is.new.free;
  few_steps = is.few_steps;
  small = is.small;
}

entries-push : (rs : List Recipe) (r : Recipe)
    → sum (map build_entries (rs ++ r ∷ [])) ≡ sum (map build_entries rs) + build_entries r
entries-push rs r =
    rw (map_push build_entries rs r)
    (fold-append ◌+◌ 0 (map build_entries rs) (build_entries r ∷ []))

pub AreRecipes-push : (l : Land) (list new : RecipeList) (r : Recipe) → AreRecipes l list
    → IsNew l list.recipes.items r → new.recipes.items ≡ list.recipes.items ++ r ∷ []
    → new.taken.items ≡ taken_with list.taken.items r.outputs
    → AreNamed new.by_name new.recipes.items
    → new.entries ≡ list.entries + build_entries r → AreRecipes l new
AreRecipes-push l list new r is fresh recipes taken named entries =
    let counted : new.entries ≡ sum (map build_entries (list.recipes.items ++ r ∷ [])) =
    omega (arith, entries, is.entries, entries-push list.recipes.items r) in
    record {
      few =
          subst (λ (rs : List Recipe). length rs ≤ 1024) (sym recipes)
          (omega (arith, length-append list.recipes.items (r ∷ []), fresh.few));
      each =
          subst (All (IsRecipe l)) (sym recipes)
          (All-push (IsRecipe l) list.recipes.items r is.each
          (IsRecipe-new l list.recipes.items r fresh));
      once =
          subst GivesOnce (sym recipes)
          (GivesOnce-push l list.recipes.items r fresh.new is.once);
      taken =
          subst (λ rs. AreTaken l rs new.taken.items) (sym recipes)
          (subst (AreTaken l (list.recipes.items ++ r ∷ [])) (sym taken)
          (AreTaken-push l list.recipes.items r list.taken.items is.taken fresh.new.outputs.known));
      named = named;
      entries =
          subst (λ rs. new.entries ≡ sum (map build_entries rs)) (sym recipes) counted;
      room = omega (arith, entries, is.entries, fresh.room);
    }
