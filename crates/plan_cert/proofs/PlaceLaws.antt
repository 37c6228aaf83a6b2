-- The rows of the places of a plan, one after another.
use Rattle.std.proofs.Common.{◌≡◌, inl, inr, ℕ, ◌+◌, ◌<◌, ◌≤◌, Bool, true, false, ◌||◌, ◌&&◌, bit_or, nat_lt, List, [], ◌∷◌, ◌++◌, length, get_or, slice_index, slice_index_or, refl, sym, ap, subst, ◌∙◌, arith}
use Rattle.std.proofs.lemmas.List.{length-append, get_or_append_left}
use Rattle.std.proofs.Math.Bool.{and-false}
use Rattle.std.proofs.lemmas.Bool.{cases_eq, false≢true, lt-ltb}
use Rattle.bit_rows.specs.Sets.{variants_of, HasNone}
use Rattle.cert_text.specs.Certificates.{IsNewRow}
use Rattle.farm_model.specs.Common.{Universe, names, variant, variants, initial}
use Rattle.farm_model.specs.declared.types.Variant.{Variant}
use Rattle.clause_kernel.specs.Rows.{word_has}
use Rattle.clause_kernel.proofs.Words.{word_has-or}
use Rattle.sat_rows.specs.Rows.{IsRowOf, variant_passes}
use Rattle.plan_cert.specs.Stated.{in_row}
use Rattle.plan_cert.specs.PlaceRows.{PlaceRows, listed_at, place_rows_of, IsRowAt, IsExtended, AreRowNumbers}

-- what is known at a place is the initial archive and the row that is listed there
pub rows-hold : (u : Universe) (known : PlaceRows) (l i : ℕ) (row : List ℕ) → known.universe ≡ u
    → row ≡ listed_at known l i → (v : Variant)
    → place_rows_of known l i v ≡ (initial u v || in_row row v)
rows-hold u known l i row of is v =
    ap (λ w. initial w v || in_row (listed_at known l i) v) of
    ∙ ap (λ there. initial u v || in_row there v) (sym is)

either-passes : (there first listed : Bool) → (listed ≡ true → there ≡ true)
    → ((there && first) || listed) ≡ (there && (first || listed))
either-passes true first listed within = refl
either-passes false first true within = sym (within refl)
either-passes false first false within = refl

-- the word of a name, of the archive and of a row
pub word-known : (u : Universe) (first second n b : ℕ) (archive row : List ℕ)
    → IsRowOf u (initial u) archive → IsNewRow u row
    → variants_of archive n b ≡ word_has first b → variants_of row n b ≡ word_has second b
    → word_has (bit_or first second) b
    ≡ variant_passes u (λ v. initial u v || in_row row v) n b
word-known u first second n b archive row archive_is new one two =
    word_has-or first second b
    ∙ ap (λ x. x || word_has second b) (sym one ∙ archive_is.set n b)
    ∙ ap (λ x. (nat_lt b (variants u n) && initial u (variant n b)) || x) (sym two)
    ∙ either-passes (nat_lt b (variants u n)) (initial u (variant n b)) (variants_of row n b)
    (λ e. lt-ltb b (variants u n) (new.known n b e))

-- a row with nothing in it
pub empty-new : (u : Universe) (row : List ℕ) → length row ≡ names u → HasNone (variants_of row)
    → IsNewRow u row
empty-new u row long none = record {
  long = long;
  known = λ n b e. absurd (none-has n b e);
  new = λ n b e. absurd (none-has n b e);
}
  where
    none-has : (n b : ℕ) → variants_of row n b ≡ true → ⊥
    none-has n b e = false≢true (sym (none n b) ∙ e)

pub empty-row : (u : Universe) (row : List ℕ) → length row ≡ names u → HasNone (variants_of row)
    → IsRowOf u (λ v. false) row
empty-row u row long none = record {
  long = long;
  set = λ n b. none n b ∙ sym (and-false (nat_lt b (variants u n)));
}

last-at : {X : Type 0} (xs : List X) (x d : X) → get_or (xs ++ x ∷ []) (length xs) d ≡ x
last-at [] x d = refl
last-at (y ∷ xs) x d = last-at xs x d

pub extended_same : (u : Universe) (rows : List (List ℕ)) → IsExtended u rows rows
extended_same u rows = record { longer = omega arith; same = λ k lt. refl; all_new = λ all. all }

pub extended_twice : (u : Universe) (a b c : List (List ℕ)) → IsExtended u a b → IsExtended u b c
    → IsExtended u a c
extended_twice u a b c first then =
    record {
      longer = omega (arith, first.longer, then.longer);
      same = λ k lt. then.same k (omega (arith, lt, first.longer)) ∙ first.same k lt;
      all_new = λ all. then.all_new (first.all_new all);
    }

pub extended_push : (u : Universe) (rows more : List (List ℕ)) (row : List ℕ)
    → more ≡ rows ++ row ∷ [] → IsNewRow u row → IsExtended u rows more
extended_push u rows more row items new =
    subst (IsExtended u rows) (sym items) (record {
      longer = (let e = length-append rows (row ∷ []) in omega (arith, e));
      same = λ k lt. get_or_append_left rows (row ∷ []) [] k lt;
      all_new = λ all k d lt. elim (cases_eq k (length rows)) [
        | inl here ↦
            subst (IsNewRow u)
            (sym (ap (λ i. get_or (rows ++ row ∷ []) i d) here ∙ last-at rows row d))
            new
        | inr other ↦
            let below : k < length rows =
            (let e = length-append rows (row ∷ []) in omega (arith, e, lt, other)) in
            subst (IsNewRow u) (sym (get_or_append_left rows (row ∷ []) d k below)) (all k d below)
      ];
    })

pub row_push : (u : Universe) (test : Variant → Bool) (rows more : List (List ℕ)) (row : List ℕ)
    (n : ℕ) → more ≡ rows ++ row ∷ [] → n + 1 ≡ length more → IsRowOf u test row
    → IsRowAt u test more n
row_push u test rows more row n items e is =
    subst (λ rs. IsRowAt u test rs n) (sym items) (record {
      within = (let m = ap length items in omega (arith, e, m));
      row = subst (λ k. IsRowOf u test (slice_index_or (rows ++ row ∷ []) k []))
          (let m = ap length items in let a = length-append rows (row ∷ []) in
          let s : length rows ≡ n = omega (arith, e, m, a) in s)
          (subst (IsRowOf u test) (sym (last-at rows row [])) is);
    })

-- more rows behind it
pub row_kept : (u : Universe) (test : Variant → Bool) (rows more : List (List ℕ)) (n : ℕ)
    → IsExtended u rows more → IsRowAt u test rows n → IsRowAt u test more n
row_kept u test rows more n ext is =
    record {
      within = omega (arith, is.within, ext.longer);
      row = subst (IsRowOf u test) (sym (ext.same n is.within)) is.row;
    }

pub numbers_first : (u : Universe) (test : ℕ → Variant → Bool) (numbers : List ℕ)
    (rows : List (List ℕ)) (m : ℕ) → numbers ≡ m ∷ [] → IsRowAt u (test 0) rows m
    → AreRowNumbers u test 0 numbers rows
numbers_first u test numbers rows m items is =
    subst (λ ns. AreRowNumbers u test 0 ns rows) (sym items) (record {
      long = refl;
      each = λ k le. let z : k ≡ 0 = omega (arith, le) in
          subst (λ i. IsRowAt u (test i) rows (slice_index (m ∷ []) i)) (sym z) is;
    })

-- one more place
pub numbers_next : (u : Universe) (test : ℕ → Variant → Bool) (i : ℕ)
    (numbers more_numbers : List ℕ) (rows more : List (List ℕ)) (m : ℕ)
    → more_numbers ≡ numbers ++ m ∷ [] → AreRowNumbers u test i numbers rows
    → IsExtended u rows more → IsRowAt u (test (i + 1)) more m
    → AreRowNumbers u test (i + 1) more_numbers more
numbers_next u test i numbers more_numbers rows more m items so_far ext is =
    subst (λ ns. AreRowNumbers u test (i + 1) ns more) (sym items) (record {
      long = (let a = length-append numbers (m ∷ []) in omega (arith, a, so_far.long));
      each = λ k le. elim (cases_eq k (i + 1)) [
        | inl here ↦
            subst (IsRowAt u (test k) more) (sym (here_at k here))
            (subst (λ j. IsRowAt u (test j) more m) (sym here) is)
        | inr other ↦
            let le2 : k ≤ i = omega (arith, le, other) in
            subst (IsRowAt u (test k) more) (sym (there_at k le2))
            (row_kept u (test k) rows more (slice_index numbers k) ext (so_far.each k le2))
      ];
    })
  where
    here_at : (k : ℕ) → k ≡ i + 1 → slice_index (numbers ++ m ∷ []) k ≡ m
    here_at k here =
        ap (slice_index (numbers ++ m ∷ []))
        (let s : k ≡ length numbers = omega (arith, here, so_far.long) in s)
        ∙ last-at numbers m 0

    there_at : (k : ℕ) → k ≤ i → slice_index (numbers ++ m ∷ []) k ≡ slice_index numbers k
    there_at k le = get_or_append_left numbers (m ∷ []) 0 k (omega (arith, le, so_far.long))

pub numbers_kept : (u : Universe) (test : ℕ → Variant → Bool) (i : ℕ) (numbers : List ℕ)
    (rows more : List (List ℕ)) → IsExtended u rows more → AreRowNumbers u test i numbers rows
    → AreRowNumbers u test i numbers more
numbers_kept u test i numbers rows more ext is =
    record {
      long = is.long;
      each = λ k le. row_kept u (test k) rows more (slice_index numbers k) ext (is.each k le);
    }
