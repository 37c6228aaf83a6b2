-- The names that are present, and tests of them.
use Rattle.std.proofs.Common.{◌≡◌, ℕ, zero, suc, ◌+◌, ◌≤◌, Bool, true, false, List, [], ◌∷◌, ◌++◌, ◌<◌, refl, arith, inl, inr, length-set, get_or-set_same, get_or-set_other, sym, ap, ◌∙◌, add-one, length, append-nil, if◌then◌else◌}
use Rattle.std.specs.Cmp.{both_ways as same_tests}
use Rattle.std.specs.Prelude.{◌||◌, ◌==◌, None, Some, position, slice_set}
use Rattle.std.specs.List.{list_any, position_or_len, sum_by}
use Rattle.std.proofs.lemmas.Bool.{cases_Bool, cases_eq, cases_lt, eq-eqb, or_left, or_right, both_ways, false≢true, lt-ltb}
use Rattle.std.proofs.lemmas.Option.{none-some}
use Rattle.std.proofs.lemmas.List.{length-append}
use Rattle.std.proofs.lemmas.List.Sums.{sum_by-cons, sum_by_push}
use Rattle.farm_model.specs.Common.{some_below, sum_below, Chroot, slot, is_present}
use Rattle.farm_model.specs.declared.types.Slot.{Slot}
use Rattle.farm_model.specs.declared.types.Slot.TheVariants.{Absent, Unpacked, Configured}
use Rattle.farm_model.proofs.BelowLaws.{some_below-at, some_below-found, sum_below-change}
use Rattle.chroot_state.specs.Present.{if_present, sum_present, ListsPresent}

-- ---- sums

abbrev one : Bool → ℕ
one b = if b then 1 else 0

one_present : (s : Slot) (k : ℕ) → 1 ≤ if_present s k → 1 ≤ k
one_present Absent k le = absurd (omega (arith, le))
one_present (Unpacked b last) k le = le
one_present (Configured b) k le = le

any_counts : (p : ℕ → Bool) (xs : List ℕ) → list_any p xs ≡ true → 1 ≤ sum_by (λ n. one (p n)) xs
any_counts p [] is = absurd (false≢true is)
any_counts p (x ∷ xs) is = elim (cases_Bool (p x)) [
  | inl here ↦ omega (arith, sum_by-cons (λ n. one (p n)) x xs, ap one here)
  | inr other ↦ omega (
    arith,
    sum_by-cons (λ n. one (p n)) x xs,
    any_counts p xs (ap (λ b. b || list_any p xs) (sym other) ∙ is),
  )
]

count_any : (p : ℕ → Bool) (xs : List ℕ) → 1 ≤ sum_by (λ n. one (p n)) xs → list_any p xs ≡ true
count_any p [] le = absurd (omega (arith, le))
count_any p (x ∷ xs) le = elim (cases_Bool (p x)) [
  | inl here ↦ or_left (p x) _ here
  | inr other ↦ or_right (p x) _ (count_any p xs
      (omega (arith, le, sum_by-cons (λ n. one (p n)) x xs, ap one other)))
]

sum_found : (n : ℕ) (g : ℕ → ℕ) → 1 ≤ sum_below n g → (k : ℕ) × (k < n) × (1 ≤ g k)
sum_found zero g le = absurd (omega (arith, le))
sum_found (suc n) g le = elim (cases_lt 0 (g n)) [
  | inl some ↦ (n, omega arith, omega (arith, some))
  | inr none ↦ let rest = sum_found n g (omega (arith, le, none)) in
      (rest.0, omega (arith, rest.1), rest.2)
]

sum_at : (n : ℕ) (g : ℕ → ℕ) (k : ℕ) → k < n → g k ≤ sum_below n g
sum_at zero g k lt = absurd (omega (arith, lt))
sum_at (suc n) g k lt = elim (cases_eq k n) [
  | inl here ↦ omega (arith, ap g here)
  | inr other ↦ omega (arith, sum_at n g k (omega (arith, lt, other)))
]

ones : (xs : List ℕ) → sum_by (λ _. 1) xs ≡ length xs
ones [] = refl
ones (x ∷ xs) = omega (arith, sum_by-cons (λ _. 1) x xs, ones xs)

at_most : (n : ℕ) (c : Chroot) → sum_below n (λ k. if_present (slot c k) 1) ≤ n
at_most zero c = omega arith
at_most (suc n) c = omega (arith, at_most n c, by (slot c n))
  where
    by : (s : Slot) → if_present s 1 ≤ 1
    by Absent = omega arith
    by (Unpacked b last) = omega arith
    by (Configured b) = omega arith

-- ---- a name is taken out

any_place : (p : ℕ → Bool) (xs : List ℕ) → list_any p xs ≡ true
    → position_or_len p xs < length xs
any_place p [] is = absurd (false≢true is)
any_place p (x ∷ xs) is = elim (cases_Bool (p x)) [
  | inl here ↦ rw here (omega arith)
  | inr other ↦ rw other (let rest = any_place p xs
      (ap (λ b. b || list_any p xs) (sym other) ∙ is) in omega (arith, rest))
]

pub listed_has_place : (p : ℕ → Bool) (xs : List ℕ) → list_any p xs ≡ true
    → position p xs ≡ None → ⊥
listed_has_place p xs is none =
    none-some (position_or_len p xs) (sym none ∙ found)
  where
    found : position p xs ≡ Some (position_or_len p xs)
    found = rw (lt-ltb (position_or_len p xs) (length xs) (any_place p xs is)) refl

-- ---- the list is made

-- the list with one more name looked at, which is present or not
pub list_more : (c : Chroot) (n : ℕ) (old new : List ℕ) (b : Bool)
    → ((f : ℕ → ℕ) → sum_by f old ≡ sum_below n (λ k. if_present (slot c k) (f k)))
    → is_present (slot c n) ≡ b → new ≡ old ++ (if b then n ∷ [] else [])
    → (f : ℕ → ℕ) → sum_by f new ≡ sum_below (n + 1) (λ k. if_present (slot c k) (f k))
list_more c n old new true before is e f =
    ap (sum_by f) e ∙ sum_by_push f old n
    ∙ rw (add-one, is) (omega (arith, before f))
list_more c n old new false before is e f =
    ap (sum_by f) (e ∙ append-nil old)
    ∙ rw (add-one, is) (omega (arith, before f))

one_long : (b : Bool) (n : ℕ) → length (if b then n ∷ [] else []) ≤ 1
one_long true n = omega arith
one_long false n = omega arith

pub short_more : (n : ℕ) (old new : List ℕ) (b : Bool) → length old ≤ n
    → new ≡ old ++ (if b then n ∷ [] else []) → length new ≤ n + 1
short_more n old new b short e =
    omega (
      arith,
      ap length e,
      length-append old (if b then n ∷ [] else []),
      one_long b n,
      short,
    )

-- ---- the list is asked

-- what passes is listed, where nothing absent passes
pub listed_any : (c : Chroot) (listed : List ℕ) → ListsPresent c listed → (p : ℕ → Slot → Bool)
    → ((n : ℕ) → p n Absent ≡ false)
    → list_any (λ n. p n (slot c n)) listed ≡ some_below (length c) (λ n. p n (slot c n))
listed_any c listed lists p law = same_tests _ _ found there
  where
    passes : ℕ → Bool
    passes n = p n (slot c n)

    found : list_any passes listed ≡ true → some_below (length c) passes ≡ true
    found is =
        let some = sum_found (length c) (λ n. if_present (slot c n) (one (passes n)))
        (omega (arith, any_counts passes listed is, lists (λ n. one (passes n)))) in
        some_below-at (length c) passes some.0 some.1
        (passing (passes some.0) (one_present (slot c some.0) (one (passes some.0)) some.2))
      where
        passing : (b : Bool) → 1 ≤ one b → b ≡ true
        passing true le = refl
        passing false le = absurd (omega (arith, le))

    there : some_below (length c) passes ≡ true → list_any passes listed ≡ true
    there is =
        let some = some_below-found (length c) passes is in
        count_any passes listed
        (omega (
          arith,
          lists (λ n. one (passes n)),
          sum_at (length c) (λ n. if_present (slot c n) (one (passes n))) some.0 some.1,
          counted some.0 (slot c some.0) some.2,
        ))
      where
        counted : (n : ℕ) (s : Slot) → p n s ≡ true → 1 ≤ if_present s (one (p n s))
        counted n Absent passes = absurd (both_ways _ (law n) passes)
        counted n (Unpacked b last) passes = omega (arith, ap one passes)
        counted n (Configured b) passes = omega (arith, ap one passes)

-- ---- a slot is put

-- what is told of a slot that was read
pub told_at : (c : Chroot) (n : ℕ) {view : Chroot} {s : Slot} {told : Bool} → c ≡ view
    → s ≡ slot view n → told ≡ is_present s → is_present (slot c n) ≡ told
told_at c n same read told = ap (λ d. is_present (slot d n)) same ∙ ap is_present (sym read)
    ∙ sym told

module _ (c : Chroot) (n : ℕ) (s : Slot) (lt : n < length c) where
  put-sum : (f : ℕ → ℕ) → sum_present (slice_set c n s) f + if_present (slot c n) (f n)
      ≡ sum_present c f + if_present s (f n)
  put-sum f =
      let after : ℕ → ℕ = λ k. if_present (slot (slice_set c n s) k) (f k) in
      let before : ℕ → ℕ = λ k. if_present (slot c k) (f k) in
      let long : sum_below (length (slice_set c n s)) after ≡ sum_below (length c) after =
      ap (λ k. sum_below k after) (length-set c n s) in
      let change : sum_below (length c) after + before n ≡ sum_below (length c) before + after n =
      sum_below-change (length c) n after before lt
      (λ k b other. ap (λ x. if_present x (f k)) (get_or-set_other c n k s Absent other)) in
      let here : after n ≡ if_present s (f n) =
      ap (λ x. if_present x (f n)) (get_or-set_same c n s Absent lt) in
      omega (arith, long, change, here)

  module _ (listed : List ℕ) (lists : ListsPresent c listed) where
    -- what was present stays so, or what was absent
    pub listed_same : is_present (slot c n) ≡ is_present s → ListsPresent (slice_set c n s) listed
    listed_same same f =
        omega (arith, lists f, put-sum f, ap (λ b. if b then f n else 0) same)

    pub listed_more : is_present (slot c n) ≡ false → is_present s ≡ true
        → ListsPresent (slice_set c n s) (listed ++ n ∷ [])
    listed_more was is f =
        omega (
          arith,
          lists f,
          put-sum f,
          sum_by_push f listed n,
          ap (λ b. if b then f n else 0) was,
          ap (λ b. if b then f n else 0) is,
        )

    pub room_for_more : is_present (slot c n) ≡ false → is_present s ≡ true
        → length listed < length c
    room_for_more was is =
        omega (
          arith,
          lists (λ _. 1),
          put-sum (λ _. 1),
          ones listed,
          at_most (length (slice_set c n s)) (slice_set c n s),
          length-set c n s,
          ap one was,
          ap one is,
        )

    pub is_listed : is_present (slot c n) ≡ true → list_any (λ k. k == n) listed ≡ true
    is_listed was =
        count_any (λ k. k == n) listed
        (omega (
          arith,
          lists (λ k. one (k == n)),
          sum_at (length c) (λ k. if_present (slot c k) (one (k == n))) n lt,
          ap (λ b. if b then one (n == n) else 0) was,
          ap one (eq-eqb n n refl),
        ))

    pub listed_less : (left : List ℕ) → ((f : ℕ → ℕ) → sum_by f left + f n ≡ sum_by f listed)
        → is_present (slot c n) ≡ true → is_present s ≡ false
        → ListsPresent (slice_set c n s) left
    listed_less left gone was is f =
        omega (
          arith,
          lists f,
          put-sum f,
          gone f,
          ap (λ b. if b then f n else 0) was,
          ap (λ b. if b then f n else 0) is,
        )
