-- The words of an archive: a variant more, and what a bit says.
use Rattle.std.proofs.Common.{◌≡◌, ℕ, zero, suc, ◌+◌, ◌<◌, Bool, true, false, ◌&&◌, ◌||◌, ◌^◌, cond, List, [], ◌∷◌, ◌++◌, map, fold, filter, set, get_or, length, length-set, refl, sym, ap, ◌∙◌, if◌then◌else◌, eqb, arith, replicate}
use Rattle.std.specs.List.{range_with_len, list_any}
use Rattle.std.specs.Int.{bit_at}
use Rattle.std.proofs.Math.Bool.{or_assoc, or-false, or-true}
use Rattle.std.proofs.lemmas.Bool.{eqb-true, eqb-false}
use Rattle.std.proofs.lemmas.List.{append-nil, get_or-set_other}
use Rattle.std.proofs.lemmas.Grind.{get_or-set_at}
use Rattle.std.proofs.lemmas.List.Elements.{filter-append}
use Rattle.std.proofs.lemmas.List.Sums.{fold-append}
use Rattle.std.proofs.lemmas.List.FromFn.{fill_by_all, length-map-range_with_len, get_or-map-range_with_len}
use Rattle.std.proofs.lemmas.Nat.Bits.{bit_at_or, bit_at-pow_same, bit_at-pow_other, bit_at-lt, bit_at-zero}
use Rattle.farm_model.specs.declared.types.Variant.{Variant}
use Rattle.farm_universe.specs.ListText.{with_bit, word_of, variant_words}

word_of-push : (vs : List Variant) (v : Variant) (k : ℕ)
    → word_of (vs ++ v ∷ []) k
    ≡ (if eqb v.name k then with_bit (word_of vs k) v.bit else word_of vs k)
word_of-push vs v k =
    rw (filter-append (λ (v : Variant). eqb v.name k) vs (v ∷ [])) (by (eqb v.name k))
  where
    kept : List Variant
    kept = filter (λ v. eqb v.name k) vs

    by : (b : Bool) → fold (λ word v. with_bit word v.bit) 0 (kept ++ cond b (v ∷ []) [])
        ≡ (if b then with_bit (word_of vs k) v.bit else word_of vs k)
    by true = fold-append (λ (word : ℕ) (v : Variant). with_bit word v.bit) 0 kept (v ∷ [])
    by false = ap (fold (λ (word : ℕ) (v : Variant). with_bit word v.bit) 0) (append-nil kept)

pub length-words_of : (n : ℕ) (vs : List Variant) → length (variant_words n vs) ≡ n
length-words_of n vs = length-map-range_with_len (word_of vs) 0 n

-- the word of a name
pub get_or-words_of : (n : ℕ) (vs : List Variant) (k : ℕ) → k < n
    → get_or (variant_words n vs) k 0 ≡ word_of vs k
get_or-words_of n vs k lk = get_or-map-range_with_len (word_of vs) 0 n k k 0 lk (omega arith)

-- a variant more sets its bit
pub words_of-push : (n : ℕ) (vs : List Variant) (v : Variant) → v.name < n
    → variant_words n (vs ++ v ∷ [])
    ≡ set (variant_words n vs) v.name (with_bit (get_or (variant_words n vs) v.name 0) v.bit)
words_of-push n vs v lt =
    sym (fill_by_all (word_of (vs ++ v ∷ []))
    (set (variant_words n vs) v.name (with_bit (get_or (variant_words n vs) v.name 0) v.bit)) n 0
    (length-set (variant_words n vs) v.name (with_bit (get_or (variant_words n vs) v.name 0) v.bit)
    ∙ length-words_of n vs)
    (λ k lk. by k lk (eqb v.name k) refl)) where
      by : (k : ℕ) → k < n → (b : Bool) → eqb v.name k ≡ b
          → get_or (set (variant_words n vs) v.name
          (with_bit (get_or (variant_words n vs) v.name 0) v.bit)) k 0
          ≡ word_of (vs ++ v ∷ []) k
      by k lk true e =
          let is = eqb-true v.name k e in
          let inside : v.name < length (variant_words n vs) = rw (length-words_of n vs) lt in
          get_or-set_at (variant_words n vs) v.name k
          (with_bit (get_or (variant_words n vs) v.name 0) v.bit) 0 (sym is) inside
          ∙ ap (λ word. with_bit word v.bit) (get_or-words_of n vs v.name lt ∙ ap (word_of vs) is)
          ∙ sym (word_of-push vs v k
          ∙ ap (λ b. if b then with_bit (word_of vs k) v.bit else word_of vs k) e)
      by k lk false e =
          get_or-set_other (variant_words n vs) v.name k
          (with_bit (get_or (variant_words n vs) v.name 0) v.bit) 0
          (λ q. eqb-false v.name k e (sym q))
          ∙ get_or-words_of n vs k lk
          ∙ sym (word_of-push vs v k
          ∙ ap (λ b. if b then with_bit (word_of vs k) v.bit else word_of vs k) e)

-- setting bit c changes bit b where they are one
pub bit-with_bit : (w c b : ℕ) → eqb (bit_at (with_bit w c) b) 1 ≡ (eqb (bit_at w b) 1 || eqb c b)
bit-with_bit w c b = by (eqb c b) refl where
  by : (t : Bool) → eqb c b ≡ t → eqb (bit_at (with_bit w c) b) 1 ≡ (eqb (bit_at w b) 1 || t)
  by true e =
      let one : bit_at (2 ^ c) b ≡ 1 =
      ap (bit_at (2 ^ c)) (sym (eqb-true c b e)) ∙ bit_at-pow_same c in
      let is : bit_at (with_bit w c) b ≡ 1 =
      omega (arith, bit_at_or w (2 ^ c) b, one, bit_at-lt w b) in
      ap (λ n. eqb n 1) is ∙ sym (or-true (eqb (bit_at w b) 1))
  by false e =
      let none : bit_at (2 ^ c) b ≡ 0 = bit_at-pow_other c b (λ q. eqb-false c b e (sym q)) in
      let is : bit_at (with_bit w c) b ≡ bit_at w b = omega (arith, bit_at_or w (2 ^ c) b, none) in
      ap (λ n. eqb n 1) is ∙ sym (or-false (eqb (bit_at w b) 1))

bits-from : (vs : List Variant) (i b w : ℕ)
    → eqb (bit_at (fold (λ word v. with_bit word v.bit) w (filter (λ v. eqb v.name i) vs)) b) 1
    ≡ (eqb (bit_at w b) 1 || list_any (λ v. eqb v.name i && eqb v.bit b) vs)
bits-from [] i b w = sym (or-false (eqb (bit_at w b) 1))
bits-from (v ∷ vs) i b w = by (eqb v.name i) (λ w. bits-from vs i b w) where
  by : (t : Bool)
      → ((w : ℕ)
      → eqb (bit_at (fold (λ word v. with_bit word v.bit) w (filter (λ v. eqb v.name i) vs)) b) 1
      ≡ (eqb (bit_at w b) 1 || list_any (λ v. eqb v.name i && eqb v.bit b) vs))
      → eqb (bit_at (fold (λ word v. with_bit word v.bit) w
      (cond t (v ∷ filter (λ v. eqb v.name i) vs) (filter (λ v. eqb v.name i) vs))) b) 1
      ≡ (eqb (bit_at w b) 1 || (t && eqb v.bit b || list_any (λ v. eqb v.name i && eqb v.bit b) vs))
  by true later =
      later (with_bit w v.bit)
      ∙ ap (λ t. t || list_any (λ v. eqb v.name i && eqb v.bit b) vs) (bit-with_bit w v.bit b)
      ∙ or_assoc (eqb (bit_at w b) 1) (eqb v.bit b) (list_any (λ v. eqb v.name i && eqb v.bit b) vs)
  by false later = later w

-- a bit of a word is set where one of these is that variant
pub bit_at-word_of : (vs : List Variant) (i b : ℕ)
    → eqb (bit_at (word_of vs i) b) 1 ≡ list_any (λ v. eqb v.name i && eqb v.bit b) vs
bit_at-word_of vs i b =
    bits-from vs i b 0
    ∙ ap (λ n. eqb n 1 || list_any (λ v. eqb v.name i && eqb v.bit b) vs) (bit_at-zero b)

words-from : (n a : ℕ) → map (word_of []) (range_with_len a n) ≡ replicate n 0
words-from zero a = refl
words-from (suc n) a = ap (λ (words : List ℕ). 0 ∷ words) (words-from n (a + 1))

-- without a variant each word is 0
pub words_of-nil : (n : ℕ) → variant_words n [] ≡ replicate n 0
words_of-nil n = words-from n 0
