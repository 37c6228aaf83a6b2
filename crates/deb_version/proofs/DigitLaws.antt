-- Two numbers, compared digit by digit.
use Rattle.std.proofs.Common.{◌≡◌, ℕ, ◌+◌, ◌-◌, ◌*◌, ◌<◌, ◌≤◌, List, [], ◌∷◌, length, take, drop, get_or, fold, refl, sym, ap, ◌∙◌, Ordering, arith, ◌⊎◌, inl, inr}
use Rattle.std.specs.declared.cmp.Ordering.TheVariants.{Less, Equal, Greater}
use Rattle.std.specs.Ordering.{ordering_then, nat_cmp}
use Rattle.std.proofs.lemmas.List.{take-append-drop}
use Rattle.std.proofs.lemmas.List.Sums.{fold-append, fold_more}
use Rattle.deb_text.specs.Numbers.{number}
use Rattle.std.proofs.lemmas.Bool.{cases_order, lt-ltb, le-ltb, eq-eqb, ne_eqb}

-- what is answered of the digits that are left, where so_far is the order of those before
abbrev pub digits_cmp : Ordering → List ℕ → List ℕ → Ordering
digits_cmp so_far [] [] = so_far
digits_cmp so_far [] (y ∷ ys) = Less
digits_cmp so_far (x ∷ xs) [] = Greater
digits_cmp so_far (x ∷ xs) (y ∷ ys) = digits_cmp (ordering_then so_far (nat_cmp x y)) xs ys

abbrev pub value_from : ℕ → List ℕ → ℕ
value_from n ds = fold (λ n d. n * 10 + (d - 48)) n ds

abbrev pub AreDigits : List ℕ → Type 0
AreDigits [] = Unit {0}
AreDigits (d ∷ ds) = (48 ≤ d) × (d < 58) × AreDigits ds

abbrev pub IsPlain : List ℕ → Type 0
IsPlain [] = Unit {0}
IsPlain (d ∷ ds) = 48 < d

-- the numbers so far have as many digits
abbrev pub Alike : ℕ → ℕ → List ℕ → List ℕ → Type 0
Alike m n xs ys = ((n < 10 * m) × (m < 10 * n)) ⊎ ((m ≡ 0) × (n ≡ 0) × IsPlain xs × IsPlain ys)

cmp_less : (m n : ℕ) → m < n → nat_cmp m n ≡ Less
cmp_less m n lt = rw (lt-ltb m n lt) refl

cmp_greater : (m n : ℕ) → n < m → nat_cmp m n ≡ Greater
cmp_greater m n lt = rw (le-ltb m n (omega arith), ne_eqb m n (λ e. omega arith)) refl

cmp_equal : (m n : ℕ) → m ≡ n → nat_cmp m n ≡ Equal
cmp_equal m n e = rw (le-ltb m n (omega arith), eq-eqb m n e) refl

grows : (m : ℕ) (xs : List ℕ) → m ≤ value_from m xs
grows m [] = omega arith
grows m (x ∷ xs) = omega (arith, grows (m * 10 + (x - 48)) xs)

-- one more digit of each
more : (m n x y : ℕ) → 48 ≤ x → x < 58 → 48 ≤ y → y < 58
    → ordering_then (nat_cmp m n) (nat_cmp x y) ≡ nat_cmp (m * 10 + (x - 48)) (n * 10 + (y - 48))
more m n x y x_low x_high y_low y_high =
    let next_m = m * 10 + (x - 48) in
    let next_n = n * 10 + (y - 48) in
    elim (cases_order m n) [
      | inl e ↦ rw (cmp_equal m n e) (elim (cases_order x y) [
        | inl f ↦ rw (cmp_equal x y f) (sym (cmp_equal next_m next_n (omega arith)))
        | inr f ↦ elim f [
          | inl lt ↦ rw (cmp_less x y lt) (sym (cmp_less next_m next_n (omega arith)))
          | inr gt ↦ rw (cmp_greater x y gt) (sym (cmp_greater next_m next_n (omega arith)))
        ]
      ])
      | inr f ↦ elim f [
        | inl lt ↦ rw (cmp_less m n lt) (sym (cmp_less next_m next_n (omega arith)))
        | inr gt ↦ rw (cmp_greater m n gt) (sym (cmp_greater next_m next_n (omega arith)))
      ]
    ]

pub digits_cmp-is : (xs ys : List ℕ) (m n : ℕ) → AreDigits xs → AreDigits ys → Alike m n xs ys
    → digits_cmp (nat_cmp m n) xs ys ≡ nat_cmp (value_from m xs) (value_from n ys)
digits_cmp-is [] [] m n dx dy alike = refl
digits_cmp-is [] (y ∷ ys) m n dx dy alike =
    let later = grows (n * 10 + (y - 48)) ys in
    sym (cmp_less m (value_from n (y ∷ ys))
    (elim alike [ inl a ↦ omega arith | inr a ↦ omega arith ]))
digits_cmp-is (x ∷ xs) [] m n dx dy alike =
    let later = grows (m * 10 + (x - 48)) xs in
    sym (cmp_greater (value_from m (x ∷ xs)) n
    (elim alike [ inl a ↦ omega arith | inr a ↦ omega arith ]))
digits_cmp-is (x ∷ xs) (y ∷ ys) m n dx dy alike =
    let next_m = m * 10 + (x - 48) in
    let next_n = n * 10 + (y - 48) in
    let next : (next_n < 10 * next_m) × (next_m < 10 * next_n) =
    elim alike [ inl a ↦ (omega arith, omega arith) | inr a ↦ (omega arith, omega arith) ] in
    ap (λ (o : Ordering). digits_cmp o xs ys) (more m n x y dx.0 dx.1 dy.0 dy.1)
    ∙ digits_cmp-is xs ys next_m next_n dx.2 dy.2 (inl next)

-- a number has at least the value of its first digits
pub number-take : (ds : List ℕ) (i : ℕ) → i < length ds
    → number (take i ds) * 10 + (get_or ds i 0 - 48) ≤ number ds
number-take ds i lt =
    let digit_behind = λ (n d : ℕ). n * 10 + (d - 48) in
    let front = take (i + 1) ds in
    let rest = drop (i + 1) ds in
    let next = fold_more digit_behind 0 ds i 0 lt in
    let whole : number ds ≡ value_from (number front) rest =
    ap number (sym (take-append-drop (i + 1) ds)) ∙ fold-append digit_behind 0 front rest in
    omega (arith, grows (number front) rest)
