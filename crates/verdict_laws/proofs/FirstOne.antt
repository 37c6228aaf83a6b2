-- The first unsafe instruction, found by going over lanes and places.
use Rattle.std.proofs.Common.{◌≡◌, ◌⊎◌, inl, inr, ℕ, zero, suc, ◌<◌, ◌≤◌, length, Option, Some, None, refl, sym, ap, ◌∙◌, arith}
use Rattle.std.proofs.lemmas.Bool.{cases_lt, cases_eq, cases_order}
use Rattle.std.proofs.lemmas.Option.{none-some, same_Some, slice_get_past}
use Rattle.farm_model.specs.Universe.{Universe}
use Rattle.plan_model.specs.Common.{Plan, lane, Rows, maps_at, Hazard, risk_of, risk_at, parts_of, hazard_of, hazard_at}
use Rattle.verdict_laws.specs.FirstUnsafe.{FirstUnsafeIsOne, SafeOrFirstUnsafe}

-- there is one such instruction
pub first_unsafe_is_one : FirstUnsafeIsOne
first_unsafe_is_one u p rows l i k j h h' a b =
    elim (cases_order l k) [
      | inl same ↦ of_lane same (cases_order i j)
      | inr other ↦
          elim other [
            | inl lt ↦ absurd
                (none-some h (sym (b.lanes_before l i lt) ∙ a.here))
            | inr lt ↦ absurd
                (none-some h' (sym (a.lanes_before k j lt) ∙ b.here))
          ]
    ]
  where
    of_lane : l ≡ k → (i ≡ j) ⊎ ((i < j) ⊎ (j < i)) → (l ≡ k) × (i ≡ j) × (h ≡ h')
    of_lane same (inl place) = (
      same,
      place,
      same_Some h h'
          (sym a.here ∙ ap (λ n. hazard_at u p rows n i) same
          ∙ ap (hazard_at u p rows k) place ∙ b.here),
    )
    of_lane same (inr (inl lt)) =
        absurd (none-some h (sym (b.before i lt) ∙ ap (λ n. hazard_at u p rows n i) (sym same)
        ∙ a.here))
    of_lane same (inr (inr lt)) =
        absurd (none-some h' (sym (a.before j lt) ∙ ap (λ n. hazard_at u p rows n j) same ∙ b.here))

-- the first of the numbers below n that has a hazard
record FirstBelow (f : ℕ → Option Hazard) (n : ℕ) : Type 0 where
  pub place : ℕ
  pub hazard : Hazard
  pub below : place < n
  pub is : f place ≡ Some hazard
  pub before : (k : ℕ) → k < place → f k ≡ None

first_below : (f : ℕ → Option Hazard) (n : ℕ) → ((k : ℕ) → k < n → f k ≡ None) ⊎ FirstBelow f n
first_below f zero = inl (λ k lt. absurd (omega arith))
first_below f (suc n) =
    elim (first_below f n) [
      | inl none ↦ here none (f n) refl
      | inr r ↦
          inr (record {
            place = r.place;
            hazard = r.hazard;
            below = omega
                (arith, r.below);
            is = r.is;
            before = r.before;
          })
    ]
  where
    here : ((k : ℕ) → k < n → f k ≡ None) → (o : Option Hazard) → f n ≡ o
        → ((k : ℕ) → k < suc n → f k ≡ None) ⊎ FirstBelow f (suc n)
    here none None e =
        inl (λ k lt. elim (cases_eq k n) [
          | inl same ↦ ap f same
              ∙ e
          | inr other ↦ none k (omega arith)
        ])
    here none (Some hazard) e =
        inr (record { place = n; hazard = hazard; below = omega arith; is = e; before = none })

module _ (u : Universe) (p : Plan) (rows : Rows) where
  -- past the end of a lane there is none
  none_past : (l k : ℕ) → length (lane p l).instructions ≤ k → hazard_at u p rows l k ≡ None
  unfolding hazard_at risk_at
  none_past l k past =
      ap (λ o. hazard_of (risk_of u p rows l k o) (parts_of u (maps_at u p rows l k) o))
      (slice_get_past (lane p l).instructions k past)

  -- the first lane, of those below n, that has an unsafe instruction
  record FirstLane (n : ℕ) : Type 0 where
    pub lane_number : ℕ
    pub below : lane_number < n
    pub first : FirstBelow (hazard_at u p rows lane_number)
        (length (lane p lane_number).instructions)
    pub before : (j k : ℕ) → j < lane_number → hazard_at u p rows j k ≡ None

  first_lane : (n : ℕ) → ((j k : ℕ) → j < n → hazard_at u p rows j k ≡ None) ⊎ FirstLane n
  first_lane zero = inl (λ j k lt. absurd (omega arith))
  first_lane (suc n) =
      elim (first_lane n) [
        | inl none ↦ here none (first_below (hazard_at u p rows n) (length (lane p n).instructions))
        | inr r ↦
            inr (record {
              lane_number = r.lane_number;
              below = omega
                  (arith, r.below);
              first = r.first;
              before = r.before;
            })
      ]
    where
      here : ((j k : ℕ) → j < n → hazard_at u p rows j k ≡ None)
          → ((k : ℕ) → k < length (lane p n).instructions → hazard_at u p rows n k ≡ None)
          ⊎ FirstBelow (hazard_at u p rows n) (length (lane p n).instructions)
          → ((j k : ℕ) → j < suc n → hazard_at u p rows j k ≡ None) ⊎ FirstLane (suc n)
      here none (inl safe) =
          inl (λ j k lt. elim (cases_eq j n) [
            | inl same ↦
                ap (λ m. hazard_at u p rows m k) same
                ∙ elim (cases_lt k (length (lane p
                n).instructions)) [ inl within ↦ safe k within | inr past ↦ none_past n k past ]
            | inr other ↦ none j k (omega arith)
          ])
      here none (inr r) =
          inr (record { lane_number = n; below = omega arith; first = r; before = none })

-- each instruction is safe, or there is a first unsafe one
pub safe_or_first_unsafe : SafeOrFirstUnsafe
safe_or_first_unsafe u p rows =
    elim (first_lane u p rows (length p)) [
      | inl none ↦ inl (λ l i lt. none l i lt)
      | inr r ↦ inr (record {
        lane = r.lane_number;
        place = r.first.place;
        hazard = r.first.hazard;
        is =
            record {
              in_plan = r.below;
              here = r.first.is;
              before = r.first.before;
              lanes_before =
                  r.before;
            };
      })
    ]
