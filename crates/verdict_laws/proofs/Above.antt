-- Rows that keep to the rules have clocks that do.
use Rattle.std.proofs.Common.{◌≡◌, ◌⊎◌, inl, inr, ℕ, zero, suc, ◌<◌, ◌≤◌, max, cond, Bool, true, false, ◌==◌, List, [], ◌∷◌, length, take, get_or, Some, slice_get, refl, sym, ap, subst, ◌∙◌, arith}
use Rattle.std.specs.Prelude.{if◌then◌else◌}
use Rattle.std.specs.List.{list_any}
use Rattle.std.proofs.lemmas.List.{take_all}
use Rattle.std.proofs.lemmas.List.Folds.{list_any-append}
use Rattle.std.proofs.lemmas.Option.{slice_get-get_or, slice_get_within}
use Rattle.std.proofs.lemmas.Bool.{or_cases, or_left, or_right, cases_eq, cases_Bool, cases_lt, cond-true, cond-false, eq-eqb, ne_eqb, false≢true}
use Rattle.farm_model.specs.Common.{greatest_below, Universe, same, contains, initial, outputs}
use Rattle.farm_model.specs.declared.types.Variant.{Variant}
use Rattle.plan_model.specs.Common.{Plan, lane, instruction_at, outputs_of, lane_outputs, outputs_before, Rows, gives, within_reach, possible, IsFact, Adds, row_before, KeepsRows}
use Rattle.plan_model.specs.declared.instructions.Instruction.{Instruction}
use Rattle.plan_model.specs.declared.instructions.Instruction.TheVariants.{Publish, Wait, When}
use Rattle.farm_model.proofs.BelowLaws.{some_below-at, some_below-found, greatest_below-at}
use Rattle.farm_laws.proofs.Archive.{same-true, list_any-some, list_any-take}
use Rattle.verdict_laws.specs.Clocks.{Clocks, clock_rows, Leads, HasUniqueOutputs, Learns, AreKnown, clocks_of, RowsHaveClocks}
use Rattle.verdict_laws.proofs.Made.{made}
use Rattle.verdict_laws.proofs.Unions.{known_are_possible}
use Rattle.verdict_laws.proofs.Sets.{no_variant, take-found, take-at, take-into, take-made, some_below_length}

-- where the greatest value comes from
greatest_below-found : (n : ℕ) (p : ℕ → Bool) (k : ℕ) → k < greatest_below n p suc
    → (m : ℕ) × (m < n) × (p m ≡ true) × (k ≤ m)
greatest_below-found zero p k lt = absurd (omega arith)
greatest_below-found (suc n) p k lt =
    elim (cases_lt k (greatest_below n p suc)) [
      | inl below ↦ let r = greatest_below-found n p k below in (r.0, omega (arith, r.1), r.2, r.3)
      | inr above ↦ by above (cases_Bool (p n))
    ]
  where
    by : greatest_below n p suc ≤ k → (p n ≡ true) ⊎ (p n ≡ false)
        → (m : ℕ) × (m < suc n) × (p m ≡ true) × (k ≤ m)
    by above (inl here) = let c : cond (p n) (suc n) 0 ≡ suc n = cond-true (p n) (suc n) 0 here in
        (n, omega arith, here, omega (arith, c))
    by above (inr out_of) = let c : cond (p n) (suc n) 0 ≡ 0 = cond-false (p n)
        (suc n) 0 out_of in absurd (omega (arith, c))

greatest_below-few : (n : ℕ) (p : ℕ → Bool) → greatest_below n p suc ≤ n
greatest_below-few zero p = omega arith
greatest_below-few (suc n) p = by (cases_Bool (p n)) (greatest_below-few n p)
  where
    by : (p n ≡ true) ⊎ (p n ≡ false) → greatest_below n p suc ≤ n
        → max (cond (p n) (suc n) 0) (greatest_below n p suc) ≤ suc n
    by (inl here) le = let c : cond (p n) (suc n) 0 ≡ suc n = cond-true (p n) (suc n) 0 here in
        omega (arith, c, le)
    by (inr out_of) le = let c : cond (p n) (suc n) 0 ≡ 0 = cond-false (p n) (suc n) 0 out_of in
        omega (arith, c, le)

-- an instruction that gives a variant makes it
gives-made : (u : Universe) (v : Variant) (is : List Instruction)
    → list_any (gives u v) is ≡ true → contains (made u is) v ≡ true
gives-made u v [] e = absurd (false≢true e)
gives-made u v (x ∷ xs) e =
    list_any-append (λ w. same w v) (outputs_of u x) (made u xs)
    ∙ elim (or_cases (gives u v x) _ e) [
      | inl here ↦ or_left (contains
          (outputs_of u x) v) _ here
      | inr there ↦ or_right (contains (outputs_of u x) v) _
          (gives-made u v xs there)
    ]

module _ (u : Universe) (p : Plan) (rows : Rows) (unique : HasUniqueOutputs u p)
    (keeps : KeepsRows u p rows) where
  abbrev outs : ℕ → List Variant
  outs j = lane_outputs u (lane p j)

  abbrev out : ℕ → ℕ → Variant
  out j n = get_or (outs j) n no_variant

  abbrev x : Clocks
  x = clocks_of u p rows

  -- a variant that a lane makes is at one place
  placed : (j m h n : ℕ) → j < length p → h < length p → m < length (outs j)
      → n < length (outs h) → same (out h n) (out j m) ≡ true → (h ≡ j) × (n ≡ m)
  placed j m h n j_lt h_lt m_lt n_lt e =
      unique.once h j n m (out j m) h_lt j_lt (slice_get-get_or (outs h) n no_variant n_lt
      ∙ ap Some (same-true (out h n) (out j m) e)) (slice_get-get_or (outs j) m no_variant m_lt)

  not_initial : (j m : ℕ) → j < length p → m < length (outs j) → initial u (out j m) ≡ true → ⊥
  not_initial j m lt m_lt e = unique.fresh j m (out j m) lt (slice_get-get_or
      (outs j) m no_variant m_lt) e

  -- what is known is possible
  known_possible : (l i : ℕ) (v : Variant) → l < length p → i ≤ length (lane p l).instructions
      → rows l i v ≡ true → possible u p l i v ≡ true
  known_possible l i v lt le e = known_are_possible u p rows keeps l i v lt le e

  in_outs : (h : ℕ) (v : Variant) → contains (outs h) v ≡ true
      → (n : ℕ) × (n < length (outs h)) × (same (out h n) v ≡ true)
  in_outs h v e = let t = take-found (length (outs h)) (outs h) v (ap (λ xs. contains xs v)
      (take_all (length (outs h)) (outs h) (omega arith)) ∙ e) in (t.0, t.2, t.3)

  -- a lane's own outputs that are possible are made before
  own_before : (l i m : ℕ) → l < length p → m < length (outs l)
      → possible u p l i (out l m) ≡ true → m < outputs_before u (lane p l) i 0
  unfolding possible
  own_before l i m lt m_lt e =
      elim (or_cases (initial u (out l m)) _ e) [
        | inl is ↦ absurd (not_initial l m lt m_lt is)
        | inr some ↦ let f = some_below-found (length p) (λ j. list_any (gives u (out l m))
            (within_reach p l i j)) some in by f.0 f.1 f.2 (cases_eq f.0 l)
      ]
    where
      by : (h : ℕ) → h < length p → list_any (gives u (out l m)) (within_reach p l i h) ≡ true
          → (h ≡ l) ⊎ (h ≡ l → ⊥) → m < outputs_before u (lane p l) i 0
      by h h_lt g (inl is) =
          let g1 : list_any (gives u (out l m)) (take i (lane p l).instructions) ≡ true = rw
          (eq-eqb l l refl) at (subst (λ k. list_any (gives u (out l m))
          (within_reach p l i k) ≡ true) is g) in
          let count = length (made u (take i (lane p l).instructions)) in
          let t = take-found count (outs l) (out l m) (ap (λ xs. contains xs
          (out l m)) (take-made u (lane p l).instructions i)
          ∙ gives-made u (out l m) (take i (lane p l).instructions) g1) in
          let q = placed l m l t.0 lt lt m_lt t.2 t.3 in omega (arith, t.1, q.1)
      by h h_lt g (inr other) =
          let g1 : list_any (gives u (out l m)) (lane p h).instructions ≡ true = rw
          (ne_eqb h l other) at g in
          let t = in_outs h (out l m) (gives-made u (out l m) (lane p h).instructions g1) in
          absurd (other (placed l m h t.0 lt h_lt m_lt t.1 t.2).0)

  at_least : (l i j m : ℕ) → m < length (outs j) → rows l i (out j m) ≡ true → m < x l i j
  at_least l i j m lt e = let g = greatest_below-at (length (outs j)) (λ n. rows l i
      (out j n)) suc m lt e in omega (arith, g)

  leads : (c : Variant) (j n m : ℕ) → j < length p → m < length (outs j) → n ≤ m
      → IsFact u p rows c (out j m) → Leads u p x c j n
  leads c j n m lt m_lt le follows =
      record {
        not_initial = λ s. not_initial j m lt m_lt
            (follows.from_start s);
        before = λ h k r b h_lt at o. by h k r b h_lt at o
            (cases_eq h j) (follows.from_output h k r b h_lt at o);
      }
    where
      by : (h k r b : ℕ) → h < length p → instruction_at p h k ≡ Some (Publish r)
          → slice_get (outputs u r) b ≡ Some c → (h ≡ j) ⊎ (h ≡ j → ⊥)
          → (rows h k (out j m) ≡ true) ⊎ (contains (take (suc b) (outputs u r))
          (out j m) ≡ true) → n <
          (if h == j then outputs_before u (lane p j) k (suc b) else x h k j)
      by h k r b h_lt at o (inl is) (inl row) =
          let row1 : rows j k (out j m) ≡ true = subst (λ g. rows g k (out j m) ≡ true) is row in
          let at1 = slice_get_within (lane p h).instructions k (Publish r) at in
          let le1 : k ≤ length (lane p j).instructions = subst (λ g. k ≤ length
          (lane p g).instructions) is (omega (arith, at1)) in
          let o1 = own_before j k m lt m_lt (known_possible j k (out j m) lt le1 row1) in
          rw (eq-eqb h j is) (omega (arith, o1))
      by h k r b h_lt at o (inr other) (inl row) = rw (ne_eqb h j other) (omega
          (arith, at_least h k j m m_lt row))
      by h k r b h_lt at o both (inr new) =
          let t = take-found (outputs_before u (lane p h) k (suc b)) (outs h) (out j m)
          (ap (λ xs. contains xs (out j m)) (take-into u (lane p h).instructions k r (suc b) at
          (some_below_length (outputs u r) b c o))
          ∙ list_any-append (λ w. same w (out j m)) (made u (take k (lane p h).instructions))
          (take (suc b) (outputs u r)) ∙ or_right _ _ new) in
          let q = placed j m h t.0 lt h_lt m_lt t.2 t.3 in
          let f : t.0 < outputs_before u (lane p j) k (suc b) = subst
          (λ g. t.0 < outputs_before u (lane p g) k (suc b)) q.0 t.1 in
          rw (eq-eqb h j q.0) (omega (arith, f, q.1))

  learns : (l i j n m : ℕ) (y : Instruction) → l < length p → j < length p → (j ≡ l → ⊥)
      → instruction_at p l i ≡ Some y → m < length (outs j) → n ≤ m
      → Adds u p rows l i (out j m) y → Learns u p x l i j n y
  learns l i j n m (Publish r) lt j_lt ne at m_lt le a =
      let g = gives-made u (out j m) (lane p l).instructions (list_any-some (gives u (out j m))
      (lane p l).instructions i (Publish r) at a) in
      let t = in_outs l (out j m) g in ne (sym (placed j m l t.0 j_lt lt m_lt t.1 t.2).0)
  learns l i j n m (Wait entry) lt j_lt ne at m_lt le a = λ c there sat. leads c j n m j_lt m_lt le
      (a.1 c there sat)
  learns l i j n m (When name wanted) lt j_lt ne at m_lt le a = λ c there sat. leads c j n m j_lt
      m_lt le (a.1 c there sat)
  learns l i j n m _ lt j_lt ne at m_lt le a = a

  found : (l i j n : ℕ) → n < x l i j
      → (m : ℕ) × (m < length (outs j)) × (rows l i (out j m) ≡ true) × (n ≤ m)
  found l i j n lt = greatest_below-found (length (outs j)) (λ n. rows l i (out j n)) n lt

  known : AreKnown u p x
  known = record {
    none = none;
    own = own;
    few = λ l i j. greatest_below-few (length (outs j))
        (λ n. rows l i (out j n));
    after = after;
  }
    where
      none : (l j : ℕ) → l < length p → j < length p → x l 0 j ≡ 0
      none l j lt j_lt =
          elim (cases_lt 0 (x l 0 j)) [
            | inl some ↦ let f = found l 0 j 0 some in
                absurd (not_initial j f.0 j_lt f.1 (keeps.at_start l (out j f.0) lt f.2))
            | inr z ↦ omega (arith, z)
          ]

      own : (l i : ℕ) → l < length p → i ≤ length (lane p l).instructions
          → x l i l ≤ outputs_before u (lane p l) i 0
      own l i lt le =
          elim (cases_lt (outputs_before u (lane p l) i 0) (x l i l)) [
            | inl more ↦ let f = found l i l (outputs_before u (lane p l) i 0) more in
                let b = own_before l i f.0 lt f.1 (known_possible l i (out l f.0) lt le f.2) in
                absurd (omega (arith, b, f.3))
            | inr few ↦ few
          ]

      after : (l i j n : ℕ) (y : Instruction) → l < length p → j < length p → (j ≡ l → ⊥)
          → instruction_at p l i ≡ Some y → n < x l (suc i) j
          → (n < x l (row_before p l i y) j) ⊎ Learns u p x l i j n y
      after l i j n y lt j_lt ne at n_lt =
          let f = found l (suc i) j n n_lt in
          elim (keeps.after l i y (out j f.0) lt at f.2) [
            | inl old ↦ let g = at_least l (row_before p l i y) j f.0 f.1 old in
                inl (omega (arith, g, f.3))
            | inr new ↦ inr (learns l i j n f.0 y lt j_lt ne at f.1 f.3 new)
          ]

  covers : (l i : ℕ) (v : Variant) → l < length p → i ≤ length (lane p l).instructions
      → rows l i v ≡ true → clock_rows u p x l i v ≡ true
  unfolding possible
  covers l i v lt le e = by (known_possible l i v lt le e)
    where
      by : possible u p l i v ≡ true → clock_rows u p x l i v ≡ true
      by q =
          elim (or_cases (initial u v) _ q) [
            | inl is ↦ or_left (initial u v) _ is
            | inr some ↦
                let f = some_below-found (length p) (λ j. list_any (gives u v)
                (within_reach p l i j)) some in
                let t = in_outs f.0 v (gives-made u v (lane p f.0).instructions (whole f.0
                (cases_eq f.0 l) f.2)) in
                let row : rows l i (out f.0 t.0) ≡ true = subst (λ w. rows l i w ≡ true) (sym
                (same-true (out f.0 t.0) v t.2)) e in
                or_right (initial u v) _ (some_below-at (length p) (λ j. contains (take (x l i j)
                (outs j)) v) f.0 f.1 (take-at (x l i f.0) (outs f.0) v t.0
                (at_least l i f.0 t.0 t.1 row) t.1 t.2))
          ]
        where
          whole : (h : ℕ) → (h ≡ l) ⊎ (h ≡ l → ⊥)
              → list_any (gives u v) (within_reach p l i h) ≡ true
              → list_any (gives u v) (lane p h).instructions ≡ true
          whole h (inl is) g = let g1 : list_any (gives u v) (take i
              (lane p h).instructions) ≡ true = rw (eq-eqb h l is) at g in
              list_any-take (gives u v) i (lane p h).instructions g1
          whole h (inr other) g = rw (ne_eqb h l other) at g

pub rows_have_clocks : RowsHaveClocks
rows_have_clocks u p rows unique keeps =
    (known u p rows unique keeps, λ l i v lt le e. covers u p rows unique keeps l i v lt le e)
