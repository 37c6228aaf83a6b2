-- The stuck lanes of a plan are one list, which is empty where there is an order.
use Rattle.std.proofs.Common.{◌≡◌, ◌⊎◌, inl, inr, ℕ, zero, suc, ◌<◌, List, [], ◌∷◌, length, Contains, refl, sym, subst, arith}
use Rattle.std.specs.List.{AllPairs}
use Rattle.std.proofs.lemmas.List.Kept.{AllPairs-from_increasing}
use Rattle.farm_model.specs.Universe.{Universe}
use Rattle.plan_model.specs.Common.{Plan, CannotEnd, AreStuck}
use Rattle.verdict_laws.specs.Stuck.{StuckAreOne, OrdersLeaveNoneStuck}

-- an element of a list is its first or one of the others
first-or-later : (x : ℕ) (xs : List ℕ) (z : ℕ) → Contains (x ∷ xs) z → (x ≡ z) ⊎ Contains xs z
first-or-later x xs z (zero, lt, is) = inl is
first-or-later x xs z (suc k, lt, is) = inr (k, omega (arith, lt), is)

is-first : (x : ℕ) (xs : List ℕ) → Contains (x ∷ xs) x
is-first x xs = (0, omega arith, refl)

is-later : (x : ℕ) (xs : List ℕ) (z : ℕ) → Contains xs z → Contains (x ∷ xs) z
is-later x xs z (k, lt, is) = (suc k, omega (arith, lt), is)

abbrev Rises : List ℕ → Type 0
Rises xs = AllPairs (λ x y. x < y) xs

first-below : (x : ℕ) (xs : List ℕ) (z : ℕ) → Rises (x ∷ xs) → Contains xs z → x < z
first-below x xs z rises (k, lt, is) =
    subst (λ y. x < y) is (rises 0 (suc k) z (omega arith) (omega (arith, lt)))

later-rise : (x : ℕ) (xs : List ℕ) → Rises (x ∷ xs) → Rises xs
later-rise x xs rises i j d lt within =
    rises (suc i) (suc j) d (omega (arith, lt)) (omega (arith, within))

-- each element of the one is one of the other
abbrev Has : List ℕ → List ℕ → Type 0
Has xs ys = (z : ℕ) → Contains xs z → Contains ys z

same-first : (x : ℕ) (xs : List ℕ) (y : ℕ) (ys : List ℕ) → Rises (x ∷ xs) → Rises (y ∷ ys)
    → Has (x ∷ xs) (y ∷ ys) → Has (y ∷ ys) (x ∷ xs) → x ≡ y
same-first x xs y ys a b there back =
    elim (first-or-later y ys x (there x (is-first x xs))) [
      | inl is ↦ sym is
      | inr in_ys ↦ elim (first-or-later x xs y (back y (is-first y ys))) [
        | inl is ↦ is
        | inr in_xs ↦ let below = first-below y ys x b in_ys in
            let above = first-below x xs y a in_xs in absurd (omega (arith, below, above))
      ]
    ]

later-have : (x : ℕ) (xs : List ℕ) (y : ℕ) (ys : List ℕ) → Rises (x ∷ xs) → x ≡ y
    → Has (x ∷ xs) (y ∷ ys) → Has xs ys
later-have x xs y ys rises same there z in_xs =
    elim (first-or-later y ys z (there z (is-later x xs z in_xs))) [
      | inl is ↦ let above = first-below x xs z rises in_xs in
          absurd (omega (arith, same, is, above))
      | inr in_ys ↦ in_ys
    ]

-- lists that rise and have the same elements are the same
rising-are-one : (xs ys : List ℕ) → Rises xs → Rises ys → Has xs ys → Has ys xs → xs ≡ ys
rising-are-one [] [] a b there back = refl
rising-are-one [] (y ∷ ys) a b there back =
    let none = (back y (is-first y ys)).1 in absurd (omega (arith, none))
rising-are-one (x ∷ xs) [] a b there back =
    let none = (there x (is-first x xs)).1 in absurd (omega (arith, none))
rising-are-one (x ∷ xs) (y ∷ ys) a b there back =
    let first : x ≡ y = same-first x xs y ys a b there back in
    let later : xs ≡ ys = rising-are-one xs ys (later-rise x xs a) (later-rise y ys b)
    (later-have x xs y ys a first there) (later-have y ys x xs b (sym first) back) in
    cc

-- what is stuck by the one list is stuck by the other
stuck-in : (u : Universe) (p : Plan) (lanes others : List ℕ) → AreStuck u p lanes
    → AreStuck u p others → Has lanes others
stuck-in u p lanes others are all l (k, lt, is) =
    let stuck = are.stuck k l lt in
    all.all l (subst (λ n. n < length p) is stuck.0) (subst (CannotEnd u p) is stuck.1)

pub stuck_are_one : StuckAreOne
stuck_are_one u p lanes others one other =
    rising-are-one lanes others (AllPairs-from_increasing lanes one.in_order)
    (AllPairs-from_increasing others other.in_order)
    (stuck-in u p lanes others one other) (stuck-in u p others lanes other one)

pub orders_leave_none_stuck : OrdersLeaveNoneStuck
orders_leave_none_stuck u p order [] is stuck = refl
orders_leave_none_stuck u p order (l ∷ ls) is stuck =
    let first = stuck.stuck 0 l (omega arith) in
    absurd (first.1 order is.end is.way (is.all_done l))
