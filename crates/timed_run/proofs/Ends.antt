-- The greatest of the first numbers, and the greatest end of the first events.
use Rattle.std.proofs.Common.{◌≡◌, ℕ, ◌+◌, ◌<◌, ◌≤◌, ◌⊎◌, inl, inr, List, [], ◌∷◌, length, Some, slice_get, get_or, refl, sym, ap, ◌∙◌, subst, arith}
use Rattle.std.specs.Prelude.{All, max}
use Rattle.std.proofs.lemmas.Bool.{cases_eq, cases_lt}
use Rattle.std.proofs.lemmas.Option.{same_Some, slice_get_read, slice_get-get_or}
use Rattle.timed_run.specs.Beginning.{Beginning}
use Rattle.timed_run.specs.declared.event.Event.{Event}
use Rattle.timed_run.specs.Ended.{IsLastFree, IsLastEnd}
use Rattle.timed_run.specs.Timed.{IsReached}

-- the greatest of the first k elements by a measure and of a first number
pub record GreatestTo {X : Type 0} (of : X → ℕ) (first : ℕ) (xs : List X) (k most : ℕ) : Type 0
  where
    pub first_too : first ≤ most
    pub greatest : (j : ℕ) (x : X) → j < k → slice_get xs j ≡ Some x → of x ≤ most
    pub reached : (most ≡ first)
        ⊎ ((j : ℕ) × (x : X) × (slice_get xs j ≡ Some x) × (of x ≡ most))

module _ {X : Type 0} (of : X → ℕ) (first : ℕ) (xs : List X) where
  pub greatest-none : GreatestTo of first xs 0 first
  greatest-none = record {
    first_too = omega arith;
    greatest = λ j x lt is. absurd (omega (arith, lt));
    reached = inl refl;
  }

  pub greatest-more : (k most : ℕ) (x : X) → GreatestTo of first xs k most → k < length xs
      → x ≡ get_or xs k x → GreatestTo of first xs (k + 1) (max (of x) most)
  greatest-more k most x g lt is =
      let at = slice_get_read xs (length xs) k x refl lt is in record {
        first_too = let first_too = g.first_too in omega (arith, first_too);
        greatest = λ j y less there. elim (cases_eq j k) [
          | inl same ↦
              let is_x : x ≡ y =
              same_Some x y (sym at ∙ (ap (slice_get xs) (sym same) ∙ there)) in
              subst (λ z. of z ≤ max (of x) most) is_x (omega arith)
          | inr other ↦
              let before = g.greatest j y (omega (arith, less, other)) there in
              omega (arith, before)
        ];
        reached = elim (cases_lt (of x) most) [
          | inl less ↦ elim g.reached [
            | inl none ↦ inl (omega (arith, none, less))
            | inr some ↦ inr (some.0, some.1, some.2, omega (arith, some.3, less))
          ]
          | inr ge ↦ inr (k, x, at, omega (arith, ge))
        ];
      }

  pub greatest-all : (k most : ℕ) → GreatestTo of first xs k most → length xs ≤ k
      → All (λ x. of x ≤ most) xs
  greatest-all k most g enough j x lt =
      g.greatest j (get_or xs j x) (omega (arith, lt, enough)) (slice_get-get_or xs j x lt)

-- what is reached of numbers, where they are counted from 0
some-free : (free : List ℕ) (last : ℕ) → All (λ time. time ≤ last) free → last ≡ 0
    → ((free ≡ []) × (last ≡ 0)) ⊎ ((l : ℕ) × (slice_get free l ≡ Some last))
some-free [] last all none = inl (refl, none)
some-free (time ∷ times) last all none =
    let first = all 0 time (omega arith) in
    let same : time ≡ last = omega (arith, first, none) in inr (0, ap Some same)

pub last-free : (free : List ℕ) (k last : ℕ) → GreatestTo (λ time. time) 0 free k last
    → length free ≤ k → IsLastFree free last
last-free free k last g enough = record {
  greatest = all;
  reached = elim g.reached [
    | inl none ↦ some-free free last all none
    | inr some ↦ inr (some.0, some.2 ∙ ap Some some.3)
  ];
}
  where
    all : All (λ time. time ≤ last) free
    all = greatest-all (λ time. time) 0 free k last g enough

pub last-end : (first : ℕ) (events : List Event) (k end : ℕ)
    → GreatestTo (λ (e : Event). e.end) first events k end → length events ≤ k
    → IsLastEnd first events end
last-end first events k end g enough = record {
  later = g.first_too;
  greatest = greatest-all (λ (e : Event). e.end) first events k end g enough;
  reached = g.reached;
}

-- the end of a run, where the last lane is free at this time at first
pub reached-by : (b : Beginning) (events : List Event) (first end : ℕ) → IsLastFree b.free first
    → IsLastEnd first events end → IsReached b events end
reached-by b events first end free ends = elim ends.reached [
  | inl same ↦ elim free.reached [
    | inl none ↦ by events (sym (same ∙ none.1)) ends.greatest
    | inr begins ↦ inr (inl (begins.0, begins.1 ∙ ap Some (sym same)))
  ]
  | inr last ↦ inr (inr last)
]
  where
    by : (es : List Event) → 0 ≡ end → All (λ (e : Event). e.end ≤ end) es
        → IsReached b es end
    by [] none all = inl (refl, sym none)
    by (e ∷ es) none all =
        let first = all 0 e (omega arith) in inr (inr (0, e, refl, omega (arith, first, none)))
