-- A row as it is read, item by item.
use Rattle.std.proofs.Common.{◌≡◌, ℕ, ◌≤◌, Bool, true, false, ◌&&◌, ◌||◌, ◌==◌, List, [], ◌∷◌, ◌++◌, length, refl, sym, ap, ◌∙◌, append_assoc, Option, Some, None, Result, Ok, Err, nat_lt, arith}
use Rattle.std.specs.Option.{option_map, option_and_then}
use Rattle.std.proofs.Math.Bool.{or-false}
use Rattle.std.proofs.lemmas.Bool.{ltb-true, ltb-false}
use Rattle.std.proofs.lemmas.List.{append-nil, get_or_past}
use Rattle.std.proofs.lemmas.List.Folds.{list_any-append}
use Rattle.bit_rows.specs.Sets.{variants_of, HasNone, AddsVariant}
use Rattle.clause_kernel.specs.Rows.{word_has}
use Rattle.clause_kernel.proofs.Meanings.{same_from_bits}
use Rattle.clause_kernel.proofs.Words.{word_has_zero}
use Rattle.deb_relation.specs.Common.{entry_at, entries_left, relations_at, Entry, Relations}
use Rattle.deb_relation.specs.declared.kind.Kind.TheVariants.{Provide}
use Rattle.deb_text.specs.Steps.{then_all, traverse}
use Rattle.farm_model.specs.Common.{names, variant, same, contains, has_bit, Universe}
use Rattle.farm_model.specs.declared.types.Variant.{Variant}
use Rattle.farm_model.proofs.TestLaws.{eqb-turned}
use Rattle.farm_universe.proofs.ArchiveLaws.{length-words_of}
use Rattle.farm_universe.proofs.ListLaws.{has_bit-words_of}
use Rattle.farm_universe.specs.Items.{item_variant}
use Rattle.farm_universe.specs.ListText.{variant_words}
use Rattle.cert_text.specs.Items.{said_by, said_variant}
use Rattle.cert_text.specs.Rows.{ahead_of, comes_behind, variants_behind, row_of_items, row_at}

-- a row of so many names that has these variants
pub record IsSoFar (n : ℕ) (row : List ℕ) (vs : List Variant) : Type 0 where
  pub long : length row ≡ n
  pub bits : (name bit : ℕ) → variants_of row name bit ≡ contains vs (variant name bit)

pub so_far-nil : (n : ℕ) (row : List ℕ) → length row ≡ n → HasNone (variants_of row)
    → IsSoFar n row []
so_far-nil n row long none = record { long = long; bits = λ name bit. none name bit }

pub so_far-push : (n : ℕ) (row new : List ℕ) (vs : List Variant) (v : Variant) → IsSoFar n row vs
    → length new ≡ length row → AddsVariant (variants_of row) v.name v.bit (variants_of new)
    → IsSoFar n new (vs ++ v ∷ [])
unfolding same
so_far-push n row new vs v is long adds = record {
  long = long ∙ is.long;
  bits = λ name bit.
      adds name bit
      ∙ ap (λ b. b || (name == v.name && bit == v.bit)) (is.bits name bit)
      ∙ ap (λ b. contains vs (variant name bit) || (b && bit == v.bit)) (eqb-turned name v.name)
      ∙ ap (λ b. contains vs (variant name bit) || (v.name == name && b)) (eqb-turned bit v.bit)
      ∙ ap (λ b. contains vs (variant name bit) || b)
      (sym (or-false (v.name == name && v.bit == bit)))
      ∙ sym (list_any-append (λ w. same w (variant name bit)) vs (v ∷ []));
}

past-none : (row : List ℕ) (name bit : ℕ) → length row ≤ name → variants_of row name bit ≡ false
past-none row name bit past =
    ap (λ word. word_has word bit) (get_or_past row name 0 past) ∙ word_has_zero bit

-- it is the row of their words
pub so_far-words : (n : ℕ) (row : List ℕ) (vs : List Variant) → IsSoFar n row vs
    → row ≡ variant_words n vs
unfolding has_bit
so_far-words n row vs is =
    same_from_bits row (variant_words n vs) (is.long ∙ sym (length-words_of n vs))
    (λ name bit. by name bit (nat_lt name n) refl) where
      by : (name bit : ℕ) (b : Bool) → nat_lt name n ≡ b
          → variants_of row name bit ≡ variants_of (variant_words n vs) name bit
      by name bit true e =
          is.bits name bit ∙ sym (has_bit-words_of n vs (variant name bit) (ltb-true name n e))
      by name bit false e =
          let past : n ≤ name = ltb-false name n e in
          past-none row name bit (omega (arith, past, is.long))
          ∙ sym (past-none (variant_words n vs) name bit
          (omega (arith, past, length-words_of n vs)))

-- ---- the items of a list

map-itself : {X : Type 0} (o : Option (List X)) → option_map (λ xs. [] ++ xs) o ≡ o
map-itself None = refl
map-itself (Some xs) = refl

map-push : {X : Type 0} (vs : List X) (v : X) (o : Option (List X))
    → option_map (λ ws. (vs ++ v ∷ []) ++ ws) o
    ≡ option_map (λ ws. vs ++ ws) (option_map (λ ws. v ∷ ws) o)
map-push vs v None = refl
map-push vs v (Some ws) = ap Some (append_assoc vs (v ∷ []) ws)

module _ (u : Universe) where
  -- the variants that these texts say, each behind the one before it
  abbrev pub variants_said : Option Variant → List (List ℕ) → Option (List Variant)
  variants_said last [] = Some []
  variants_said last (text ∷ texts) =
      option_and_then
      (λ v. ahead_of (comes_behind u last v) v (variants_said (Some v) texts))
      (said_variant u text)

  -- what is left, behind the variants so far
  abbrev pub left_of : List Variant → Option Variant → List (List ℕ) → Option (List Variant)
  left_of vs last texts = option_map (λ ws. vs ++ ws) (variants_said last texts)

  pub left-begins : (texts : List (List ℕ)) → left_of [] None texts ≡ variants_said None texts
  left-begins texts = map-itself (variants_said None texts)

  module _ (vs : List Variant) (last : Option Variant) (text : List ℕ) (all texts : List (List ℕ))
      (total : Option (List Variant)) (cut : all ≡ text ∷ texts)
      (so_far : left_of vs last all ≡ total) where
    -- an item that names no variant
    pub left-none : said_variant u text ≡ None → total ≡ None
    left-none is = sym so_far ∙ rw (cut, is) refl

    module _ (v : Variant) (is : said_variant u text ≡ Some v) where
      -- one whose variant may not stand there
      pub left-stops : comes_behind u last v ≡ false → total ≡ None
      left-stops not = sym so_far ∙ rw (cut, is, not) refl

      pub left-goes : comes_behind u last v ≡ true → left_of (vs ++ v ∷ []) (Some v) texts ≡ total
      left-goes fine =
          map-push vs v (variants_said (Some v) texts)
          ∙ (rw (cut, is, fine) at so_far)

  pub left-ends : (vs : List Variant) (last : Option Variant) (all : List (List ℕ))
      (total : Option (List Variant)) → all ≡ [] → left_of vs last all ≡ total → total ≡ Some vs
  left-ends vs last all total cut so_far =
      sym so_far ∙ (rw cut (ap Some (append-nil vs)))

  -- ---- the texts say what the items that they spell say

  abbrev behind_read : Option Variant → Result Relations ℕ → Option (List Variant)
  behind_read last (Ok items) = variants_behind u last items
  behind_read last (Err code) = None

  none-ahead : (b : Bool) (v : Variant) → ahead_of b v None ≡ None
  none-ahead true v = refl
  none-ahead false v = refl

  no-more : (last : Option Variant) (o : Option Variant)
      → None ≡ option_and_then (λ v. ahead_of (comes_behind u last v) v None) o
  no-more last None = refl
  no-more last (Some v) = sym (none-ahead (comes_behind u last v) v)

  pub read-said : (last : Option Variant) (texts : List (List ℕ))
      → behind_read last (traverse (entry_at Provide) texts) ≡ variants_said last texts
  unfolding traverse said_variant
  read-said last [] = refl
  read-said last (text ∷ texts) =
      by (entry_at Provide text) (traverse (entry_at Provide) texts)
      (λ v. read-said (Some v) texts) where
        by : (first : Result Entry ℕ) (rest : Result Relations ℕ)
            → ((v : Variant) → behind_read (Some v) rest ≡ variants_said (Some v) texts)
            → behind_read last (then_all first rest)
            ≡ option_and_then
            (λ v. ahead_of (comes_behind u last v) v (variants_said (Some v) texts))
            (said_by u first)
        by (Err code) rest later = refl
        by (Ok item) rest later = go (item_variant u item) refl rest later where
          go : (o : Option Variant) → item_variant u item ≡ o → (rest : Result Relations ℕ)
              → ((v : Variant) → behind_read (Some v) rest ≡ variants_said (Some v) texts)
              → behind_read last (then_all (Ok item) rest)
              ≡ option_and_then
              (λ v. ahead_of (comes_behind u last v) v (variants_said (Some v) texts)) o
          go None e (Ok items) later = rw e refl
          go None e (Err code) later = refl
          go (Some v) e (Ok items) later =
              rw e (ap (ahead_of (comes_behind u last v) v) (later v))
          go (Some v) e (Err code) later =
              sym (none-ahead (comes_behind u last v) v)
              ∙ ap (ahead_of (comes_behind u last v) v) (later v)

  pub row-said : (text : List ℕ) → row_at u text
      ≡ option_map (variant_words (names u)) (variants_said None (entries_left (Some text)))
  unfolding row_at relations_at
  row-said text =
      by (traverse (entry_at Provide) (entries_left (Some text)))
      ∙ ap (option_map (variant_words (names u))) (read-said None (entries_left (Some text))) where
        by : (r : Result Relations ℕ)
            → row_of_items u r ≡ option_map (variant_words (names u)) (behind_read None r)
        by (Ok items) = refl
        by (Err code) = refl
