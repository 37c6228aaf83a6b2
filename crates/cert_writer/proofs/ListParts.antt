-- The text of a list of variants, part by part.
use Rattle.std.proofs.Common.{◌≡◌, ℕ, ◌+◌, Bool, true, false, ◌&&◌, List, [], ◌∷◌, ◌++◌, map, cond, codes, refl, sym, ap, ◌∙◌, append_assoc, arith}
use Rattle.std.specs.List.{flat_map, range_with_len}
use Rattle.std.proofs.lemmas.List.{append-nil}
use Rattle.std.proofs.lemmas.List.Concat.{flat_map-append}
use Rattle.std.proofs.lemmas.List.FromFn.{filter_of_map_range_with_len_more}
use Rattle.bit_rows.specs.Sets.{variants_of, IsWordOf}
use Rattle.clause_kernel.specs.Rows.{word_has}
use Rattle.farm_model.specs.Common.{variant, variants, Universe}
use Rattle.farm_model.specs.declared.types.Variant.{Variant}
use Rattle.cert_text.proofs.RowLists.{named_below, names-more, in_row-none}
use Rattle.cert_text.specs.Printed.{variant_text, more_text, list_text}
use Rattle.cert_text.specs.Rows.{those_in_row, named_in_row}
use Rattle.cert_writer.specs.Lines.{item_text, part_text, is_none, in_word}

-- ---- texts

more-append : (u : Universe) (vs ws : List Variant)
    → more_text u (vs ++ ws) ≡ more_text u vs ++ more_text u ws
more-append u vs ws = flat_map-append (λ v. codes ", " ++ variant_text u v) vs ws

-- more variants behind some
pub part-append : (u : Universe) (is_first : Bool) (vs ws : List Variant)
    → part_text u is_first (vs ++ ws)
    ≡ part_text u is_first vs ++ part_text u (is_first && is_none vs) ws
part-append u true [] ws = refl
part-append u true (v ∷ vs) ws =
    ap (λ t. codes " " ++ variant_text u v ++ t) (more-append u vs ws)
    ∙ ap (λ t. codes " " ++ t)
    (sym (append_assoc (variant_text u v) (more_text u vs) (more_text u ws)))
    ∙ sym (append_assoc (codes " ") (variant_text u v ++ more_text u vs) (more_text u ws))
part-append u false vs ws = more-append u vs ws

pub part-one : (u : Universe) (is_first : Bool) (v : Variant)
    → part_text u is_first (v ∷ []) ≡ item_text u is_first v
part-one u true v = ap (λ t. codes " " ++ t) (append-nil (variant_text u v))
part-one u false v = append-nil (codes ", " ++ variant_text u v)

pub none-append : (is_first : Bool) (vs ws : List Variant)
    → (is_first && is_none (vs ++ ws)) ≡ ((is_first && is_none vs) && is_none ws)
none-append true [] ws = refl
none-append true (v ∷ vs) ws = refl
none-append false vs ws = refl

-- ---- the variants of a word

module _ (word n b : ℕ) where
  in_word-more : in_word word (named_below n (b + 1))
      ≡ in_word word (named_below n b) ++ cond (word_has word b) (variant n b ∷ []) []
  in_word-more =
      filter_of_map_range_with_len_more (λ v. word_has word v.bit) (variant n) 0 b b (omega arith)

  pub in_word-has : word_has word b ≡ true
      → in_word word (named_below n (b + 1)) ≡ in_word word (named_below n b) ++ variant n b ∷ []
  in_word-has is = in_word-more ∙ rw is refl

  pub in_word-lacks : word_has word b ≡ false
      → in_word word (named_below n (b + 1)) ≡ in_word word (named_below n b)
  in_word-lacks is = in_word-more ∙ rw is (append-nil (in_word word (named_below n b)))

none-push : (vs : List Variant) (v : Variant) → is_none (vs ++ v ∷ []) ≡ false
none-push [] v = refl
none-push (w ∷ vs) v = refl

and-false : (b : Bool) → false ≡ (b && false)
and-false true = refl
and-false false = refl

-- a bit more of a word
module _ (u : Universe) (is_first : Bool) (word n b : ℕ) where
  abbrev ws : List Variant
  ws = in_word word (named_below n b)

  module _ (text now : List ℕ) (was : now ≡ text ++ part_text u is_first ws) where
    -- that is set
    pub item-more : (still : Bool) (next : List ℕ) → still ≡ (is_first && is_none ws)
        → word_has word b ≡ true → next ≡ now ++ item_text u still (variant n b)
        → next ≡ text ++ part_text u is_first (in_word word (named_below n (b + 1)))
    item-more still next first is more =
        more
        ∙ ap (λ t. t ++ item_text u still (variant n b)) was
        ∙ append_assoc text (part_text u is_first ws) (item_text u still (variant n b))
        ∙ ap (λ t. text ++ (part_text u is_first ws ++ t)) (sym (part-one u still (variant n b)))
        ∙ ap (λ f. text ++ (part_text u is_first ws ++ part_text u f (variant n b ∷ []))) first
        ∙ ap (λ t. text ++ t) (sym (part-append u is_first ws (variant n b ∷ [])))
        ∙ ap (λ vs. text ++ part_text u is_first vs) (sym (in_word-has word n b is))

    -- that is not
    pub item-none : word_has word b ≡ false
        → now ≡ text ++ part_text u is_first (in_word word (named_below n (b + 1)))
    item-none is = was ∙ ap (λ vs. text ++ part_text u is_first vs)
        (sym (in_word-lacks word n b is))

  pub still-more : word_has word b ≡ true
      → false ≡ (is_first && is_none (in_word word (named_below n (b + 1))))
  still-more is =
      and-false is_first
      ∙ ap (λ t. is_first && t) (sym (none-push ws (variant n b)))
      ∙ ap (λ vs. is_first && is_none vs) (sym (in_word-has word n b is))

  pub still-none : (still : Bool) → still ≡ (is_first && is_none ws) → word_has word b ≡ false
      → still ≡ (is_first && is_none (in_word word (named_below n (b + 1))))
  still-none still was is = was ∙ ap (λ vs. is_first && is_none vs)
      (sym (in_word-lacks word n b is))

-- the bits of a row's word are those of the row
same-bits : (row ks : List ℕ) (n word : ℕ) → IsWordOf (variants_of row) n word
    → those_in_row row (map (variant n) ks) ≡ in_word word (map (variant n) ks)
same-bits row [] n word is = refl
same-bits row (k ∷ ks) n word is = by (word_has word k) (is k) (same-bits row ks n word is) where
  by : (t : Bool) → variants_of row n k ≡ word_has word k
      → those_in_row row (map (variant n) ks) ≡ in_word word (map (variant n) ks)
      → those_in_row row (map (variant n) (k ∷ ks)) ≡ in_word word (map (variant n) (k ∷ ks))
  by t same later = rw (same, later) refl

-- ---- one name more

module _ (u : Universe) (row : List ℕ) (n word : ℕ) (is : IsWordOf (variants_of row) n word) where
  abbrev before : List Variant
  before = flat_map (named_in_row u row) (range_with_len 0 n)

  after : flat_map (named_in_row u row) (range_with_len 0 (n + 1))
      ≡ before ++ in_word word (named_below n (variants u n))
  after =
      names-more (named_in_row u row) n
      ∙ ap (λ (vs : List Variant). before ++ vs)
      (same-bits row (range_with_len 0 (variants u n)) n word is)

  -- whose word has these variants
  pub list-more : (text now next : List ℕ) (is_first : Bool) → now ≡ text ++ list_text u before
      → is_first ≡ is_none before
      → next ≡ now ++ part_text u is_first (in_word word (named_below n (variants u n)))
      → next ≡ text ++ list_text u (flat_map (named_in_row u row) (range_with_len 0 (n + 1)))
  list-more text now next is_first was first more =
      more
      ∙ ap (λ t. t ++ part_text u is_first ws) was
      ∙ append_assoc text (list_text u before) (part_text u is_first ws)
      ∙ ap (λ f. text ++ (list_text u before ++ part_text u f ws)) first
      ∙ ap (λ t. text ++ t) (sym (part-append u true before ws))
      ∙ ap (λ vs. text ++ list_text u vs) (sym after)
    where
      ws : List Variant
      ws = in_word word (named_below n (variants u n))

  pub first-more : (is_first still : Bool) → is_first ≡ is_none before
      → still ≡ (is_first && is_none (in_word word (named_below n (variants u n))))
      → still ≡ is_none (flat_map (named_in_row u row) (range_with_len 0 (n + 1)))
  first-more is_first still first more =
      more
      ∙ ap (λ f. f && is_none (in_word word (named_below n (variants u n)))) first
      ∙ sym (none-append true before (in_word word (named_below n (variants u n))))
      ∙ ap is_none (sym after)

-- whose word is 0
pub none-more : (u : Universe) (row : List ℕ) (n : ℕ) → IsWordOf (variants_of row) n 0
    → flat_map (named_in_row u row) (range_with_len 0 (n + 1))
    ≡ flat_map (named_in_row u row) (range_with_len 0 n)
none-more u row n is =
    names-more (named_in_row u row) n
    ∙ ap (λ (vs : List Variant). flat_map (named_in_row u row) (range_with_len 0 n) ++ vs)
    (in_row-none row n (variants u n) is)
    ∙ append-nil (flat_map (named_in_row u row) (range_with_len 0 n))
