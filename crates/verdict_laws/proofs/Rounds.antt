-- Taking away what the inclusions do not allow, until nothing changes, leaves the greatest rows.
use Rattle.std.proofs.Common.{◌≡◌, inl, inr, ℕ, zero, suc, ◌<◌, ◌≤◌, Bool, true, false, not, ◌&&◌, ◌||◌, length, sym, ap, ◌∙◌, arith}
use Rattle.std.proofs.lemmas.Bool.{or_cases, or_left, or_right, and_parts, and_from, or_parts, cases_eq, cases_Bool, both_ways, not-true, not-false}
use Rattle.std.proofs.lemmas.Option.{slice_get_within}
use Rattle.farm_model.specs.Common.{every_below, sum_below, Universe, variant, names, variants, IsUniverse}
use Rattle.farm_model.specs.declared.types.Variant.{Variant}
use Rattle.farm_model.proofs.BelowLaws.{every_below-at, every_below-fails, sum_below-mono}
use Rattle.plan_model.specs.Common.{Plan, lane, instruction_at, Rows, possible, row_before, KeepsRows}
use Rattle.verdict_laws.specs.Families.{IsWithin}
use Rattle.verdict_laws.specs.Greatest.{every_variant, adds_some, row_before_some, allowed, is_settled, without_excess, one_if, rows_size, settled_after, greatest_rows, AreKnown, SettledRowsKeep, GreatestRowsAreGreatest}
use Rattle.verdict_laws.proofs.Inclusions.{every_variant-at, possible-known, adds-sound, adds-complete}
use Rattle.verdict_laws.proofs.RowBefore.{row_before-le}
use Rattle.verdict_laws.proofs.Unions.{there, Adds-mono, known_are_possible}

-- a sum that is less at one place and more at none is less
sum_below-less : (n : ℕ) (f g : ℕ → ℕ) → ((k : ℕ) → k < n → f k ≤ g k) → (k : ℕ) → k < n → f k < g k
    → sum_below n f < sum_below n g
sum_below-less zero f g le k lt less = absurd (omega arith)
sum_below-less (suc n) f g le k lt less =
    elim (cases_eq k n) [
      | inl here ↦
          let rest = sum_below-mono n f g (λ j below. le j (omega arith)) in
          let a : f k ≡ f n = ap f here in
          let b : g k ≡ g n = ap g here in omega (arith, rest, a, b, less)
      | inr other ↦
          omega (
            arith,
            le n (omega arith),
            sum_below-less n f g (λ j below. le j (omega arith)) k
                (omega arith) less,
          )
    ]

one_if-and : (a b : Bool) → one_if (a && b) ≤ one_if a
one_if-and true true = omega arith
one_if-and true false = omega arith
one_if-and false b = omega arith

one_if-less : (a b : Bool) → a ≡ true → b ≡ false → one_if (a && b) < one_if a
one_if-less a b e f = rw (e, f) (omega arith)

module _ (u : Universe) (p : Plan) (rows : Rows) where
  -- a place and a variant that are not allowed
  record Excess : Type 0 where
    pub lane_number : ℕ
    pub place : ℕ
    pub name : ℕ
    pub bit : ℕ
    pub in_plan : lane_number < length p
    pub in_lane : place < suc (length (lane p lane_number).instructions)
    pub in_names : name < names u
    pub in_variants : bit < variants u name
    pub is_there : rows lane_number place (variant name bit) ≡ true
    pub not_allowed : allowed u p rows lane_number place (variant name bit) ≡ false

  excess : is_settled u p rows ≡ false → Excess
  unfolding is_settled
  excess e =
      let fine : ℕ → ℕ → Variant → Bool = λ l i v. not (rows l i v) || allowed u p rows l i v in
      let l =
      every_below-fails (length p)
      (λ l. every_below (suc (length (lane p l).instructions))
      (λ i. every_variant u (fine l i))) e in
      let i =
      every_below-fails (suc (length (lane p l.0).instructions))
      (λ i. every_variant u (fine l.0 i)) l.2 in
      let n =
      every_below-fails (names u) (λ n. every_below (variants u n)
      (λ b. fine l.0 i.0 (variant n b))) i.2 in
      let b = every_below-fails (variants u n.0) (λ b. fine l.0 i.0 (variant n.0 b)) n.2 in
      let parts =
      or_parts (not (rows l.0 i.0 (variant n.0 b.0)))
      (allowed u p rows l.0 i.0 (variant n.0 b.0)) b.2 in
      let here : rows l.0 i.0 (variant n.0 b.0) ≡ true =
      not-false (rows l.0 i.0 (variant n.0 b.0)) parts.0 in
      record {
        lane_number = l.0;
        place = i.0;
        name = n.0;
        bit = b.0;
        in_plan = l.1;
        in_lane = i.1;
        in_names = n.1;
        in_variants = b.1;
        is_there = here;
        not_allowed = parts.1;
      }

  -- a round that changes something leaves fewer
  shrinks : is_settled u p rows ≡ false
      → rows_size u p (without_excess u p rows) < rows_size u p rows
  unfolding rows_size
  shrinks e =
      let x = excess e in
      let bits : ℕ → ℕ → ℕ → Rows → ℕ =
      λ l i n r. sum_below (variants u n) (λ b. one_if (r l i (variant n b))) in
      let of_names : ℕ → ℕ → Rows → ℕ = λ l i r. sum_below (names u) (λ n. bits l i n r) in
      let of_places : ℕ → Rows → ℕ =
      λ l r. sum_below (suc (length (lane p l).instructions)) (λ i. of_names l i r) in
      let less = without_excess u p rows in
      let each : (l i n b : ℕ) → one_if (less l i (variant n b)) ≤ one_if (rows l i (variant n b)) =
      λ l i n b. one_if-and (rows l i (variant n b)) (allowed u p rows l i (variant n b)) in
      let each_name : (l i n : ℕ) → bits l i n less ≤ bits l i n rows =
      λ l i n. sum_below-mono (variants u n) _ _ (λ b lt. each l i n b) in
      let each_place : (l i : ℕ) → of_names l i less ≤ of_names l i rows =
      λ l i. sum_below-mono (names u) _ _ (λ n lt. each_name l i n) in
      let each_lane : (l : ℕ) → of_places l less ≤ of_places l rows =
      λ l. sum_below-mono (suc (length (lane p l).instructions)) _ _ (λ i lt. each_place l i) in
      sum_below-less (length p) (λ l. of_places l less) (λ l. of_places l rows)
      (λ l lt. each_lane l) x.lane_number x.in_plan
      (sum_below-less (suc (length (lane p x.lane_number).instructions))
      (λ i. of_names x.lane_number i less) (λ i. of_names x.lane_number i rows)
      (λ i lt. each_place x.lane_number i) x.place x.in_lane
      (sum_below-less (names u) (λ n. bits x.lane_number x.place n less)
      (λ n. bits x.lane_number x.place n rows)
      (λ n lt. each_name x.lane_number x.place n) x.name x.in_names
      (sum_below-less (variants u x.name)
      (λ b. one_if (less x.lane_number x.place (variant x.name b)))
      (λ b. one_if (rows x.lane_number x.place (variant x.name b)))
      (λ b lt. each x.lane_number x.place x.name b) x.bit x.in_variants
      (one_if-less _ _ x.is_there x.not_allowed))))

module _ (u : Universe) (p : Plan) (is : IsUniverse u) where
  -- where nothing is left to take away, the rows keep to the inclusions
  settled_keeps : (rows : Rows) → AreKnown u rows → is_settled u p rows ≡ true → KeepsRows u p rows
  unfolding is_settled
  settled_keeps rows known e =
      record {
        at_start = λ l v lt here. at l 0 v lt (omega arith) here;
        after = λ l i x v lt is_x here.
            let below = slice_get_within (lane p l).instructions i x is_x in
            elim (or_cases (rows l (row_before_some p l i (instruction_at p l i)) v) _
            (at l (suc i) v lt (omega arith) here)) [
              | inl old ↦ inl (ap (λ o. rows l (row_before_some p l i o) v) (sym is_x) ∙ old)
              | inr new ↦
                  inr (adds-sound u is p rows l i v x
                  (ap (adds_some u p rows l i v) (sym is_x) ∙ new))
            ];
      }
    where
      at : (l i : ℕ) (v : Variant) → l < length p → i ≤ length (lane p l).instructions
          → rows l i v ≡ true → allowed u p rows l i v ≡ true
      at l i v lt le here =
          elim (or_cases (not (rows l i v)) _
          (every_variant-at u (λ v. not (rows l i v) || allowed u p rows l i v) v (known l i v here)
          (every_below-at (suc (length (lane p l).instructions))
          (λ i. every_variant u (λ v. not (rows l i v) || allowed u p rows l i v)) i
          (omega arith)
          (every_below-at (length p) (λ l. every_below (suc (length (lane p l).instructions))
          (λ i. every_variant u (λ v. not (rows l i v) || allowed u p rows l i v))) l lt e)))) [
            | inl none ↦ absurd (both_ways _ (not-true _ none) here)
            | inr fine ↦ fine
          ]

  rounds_keep : (n : ℕ) (rows : Rows) → AreKnown u rows → rows_size u p rows ≤ n
      → KeepsRows u p (settled_after u p n rows)
  rounds_keep zero rows known few =
      elim (cases_Bool (is_settled u p rows)) [
        | inl done ↦ settled_keeps rows known done
        | inr not_yet ↦ absurd
            (omega (arith, shrinks u p rows not_yet))
      ]
  rounds_keep (suc n) rows known few =
      elim (cases_Bool (is_settled u p rows)) [
        | inl done ↦ rw done (settled_keeps rows known done)
        | inr not_yet ↦ rw not_yet
            (rounds_keep n (without_excess u p rows)
            (λ l i v e. known l i v (and_parts (rows l i v) _ e).0)
            (omega (arith, shrinks u p rows not_yet)))
      ]

  -- what any rows that keep to the inclusions have is never taken away
  stays : (other rows : Rows) → KeepsRows u p other → IsWithin p other rows
      → IsWithin p other (without_excess u p rows)
  stays other rows keeps within l i v lt le e =
      and_from (rows l i v) _ (within l i v lt le e) (by i le e)
    where
      by : (i : ℕ) → i ≤ length (lane p l).instructions → other l i v ≡ true
          → allowed u p rows l i v ≡ true
      by zero le e = keeps.at_start l v lt e
      by (suc i) le e =
          let x = there p l i (omega arith) in
          let back = row_before-le p l i x.0 in
          elim (keeps.after l i x.0 v lt x.1 e) [
            | inl old ↦
                or_left (rows l (row_before_some p l i (instruction_at p l i)) v) _
                (ap (λ o. rows l (row_before_some p l i o) v) x.1
                ∙ within l (row_before p l i x.0) v lt (omega (arith, back, le)) old)
            | inr new ↦
                or_right (rows l (row_before_some p l i (instruction_at p l i)) v) _
                (ap (adds_some u p rows l i v) x.1
                ∙ adds-complete u is p rows l i v x.0
                (Adds-mono u p other rows l i v x.0 within new))
          ]

  rounds_stay : (n : ℕ) (other rows : Rows) → KeepsRows u p other → IsWithin p other rows
      → IsWithin p other (settled_after u p n rows)
  rounds_stay zero other rows keeps within = within
  rounds_stay (suc n) other rows keeps within =
      elim (cases_Bool (is_settled u p rows)) [
        | inl done ↦ rw done within
        | inr not_yet ↦
            rw not_yet (rounds_stay n other (without_excess u p rows) keeps
            (stays other rows keeps within))
      ]

pub settled_rows_keep : SettledRowsKeep
settled_rows_keep u p rows sound known e = settled_keeps u p sound.universe rows known e

pub greatest_rows_are_greatest : GreatestRowsAreGreatest
unfolding greatest_rows
greatest_rows_are_greatest u p sound =
    record {
      keeps =
          rounds_keep u p sound.universe (rows_size u p (possible u p)) (possible u p)
          (λ l i v e. possible-known u sound.universe p l i v e) (omega arith);
      greatest =
          λ other keeps. rounds_stay u p sound.universe (rows_size u p (possible u p)) other
          (possible u p) keeps (known_are_possible u p other keeps);
    }
