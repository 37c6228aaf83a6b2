-- The inclusions and their tests, where the universe is one that the readers make.
use Rattle.std.proofs.Common.{◌≡◌, ◌⊎◌, inl, inr, ℕ, suc, ◌<◌, Bool, true, not, ◌&&◌, ◌||◌, List, [], ◌∷◌, length, take, Option, Some, None, slice_get, refl, ap, ◌∙◌, arith}
use Rattle.std.specs.List.{list_any}
use Rattle.std.proofs.lemmas.Bool.{or_cases, or_left, or_right, and_parts, and_from, cases_eq, cases_Bool, both_ways, not-true, not_from_false, false≢true, eq-eqb, ne_eqb}
use Rattle.std.proofs.lemmas.Option.{slice_get_within}
use Rattle.farm_model.specs.Common.{every_below, Universe, variant, names, variants, same, contains, satisfies_entry, initial, outputs, IsKnown, IsUniverse}
use Rattle.farm_model.specs.declared.types.Variant.{Variant}
use Rattle.farm_model.proofs.BelowLaws.{some_below-found, every_below-at, every_below-all}
use Rattle.plan_model.specs.Common.{Plan, lane, instruction_at, Rows, gives, within_reach, possible, IsFact, Follows, is_of, Adds}
use Rattle.plan_model.specs.declared.instructions.Instruction.{Instruction}
use Rattle.plan_model.specs.declared.instructions.Instruction.TheVariants.{Publish, Wait, When}
use Rattle.farm_laws.proofs.Archive.{same-true, same-refl, list_any-take}
use Rattle.farm_model.proofs.VariantLaws.{contained, name_within}
use Rattle.verdict_laws.specs.Greatest.{every_variant, is_that, follows_at, is_fact, follows, adds}

pub every_variant-all : (u : Universe) (test : Variant → Bool) → ((v : Variant) → test v ≡ true)
    → every_variant u test ≡ true
every_variant-all u test h =
    every_below-all (names u) _ (λ n lt. every_below-all (variants u n) _
    (λ b lt'. h (variant n b)))

pub every_variant-at : (u : Universe) (test : Variant → Bool) (v : Variant) → IsKnown u v
    → every_variant u test ≡ true → test v ≡ true
every_variant-at u test v known e =
    every_below-at (variants u v.name) (λ b. test (variant v.name b)) v.bit known
    (every_below-at (names u) (λ n. every_below (variants u n) (λ b. test (variant n b))) v.name
    (name_within u v known) e)

given_by : (P : Type 0) (test : Instruction → Bool) (xs : List Instruction)
    → ((x : Instruction) → test x ≡ true → P) → list_any test xs ≡ true → P
given_by P test [] h e = absurd (false≢true e)
given_by P test (x ∷ xs) h e =
    elim (or_cases (test x) _ e) [ inl here ↦ h x here | inr rest ↦ given_by P test xs h rest ]

module _ (u : Universe) (is : IsUniverse u) where
  gives-known : (v : Variant) (x : Instruction) → gives u v x ≡ true → IsKnown u v
  gives-known v (Publish r) e = contained (IsKnown u) (outputs u r) v (is.outputs_known r) e
  gives-known v _ e = absurd (false≢true e)

  -- what may be in the archive is known to the universe
  pub possible-known : (p : Plan) (l i : ℕ) (v : Variant) → possible u p l i v ≡ true → IsKnown u v
  unfolding possible
  possible-known p l i v e =
      elim (or_cases (initial u v) _ e) [
        | inl here ↦ is.initial_known v here
        | inr some ↦
            let f =
            some_below-found (length p) (λ j. list_any (gives u v)
            (within_reach p l i j)) some in
            given_by (IsKnown u v) (gives u v) (lane p f.0).instructions (gives-known v)
            (all f.0 (cases_eq f.0 l) f.2)
      ]
    where
      all : (j : ℕ) → (j ≡ l) ⊎ (j ≡ l → ⊥) → list_any (gives u v) (within_reach p l i j) ≡ true
          → list_any (gives u v) (lane p j).instructions ≡ true
      all j (inl own) h =
          let first : list_any (gives u v) (take i (lane p j).instructions) ≡ true = rw
          (eq-eqb j l own) at h in list_any-take (gives u v) i (lane p j).instructions first
      all j (inr other) h = rw (ne_eqb j l other) at h

  module _ (p : Plan) (rows : Rows) where
    -- the test of a fact
    pub fact-sound : (c v : Variant) → is_fact u p rows c v ≡ true → IsFact u p rows c v
    unfolding is_fact
    fact-sound c v e =
        let parts = and_parts _ _ e in
        record {
          from_start =
              λ start. elim (or_cases (not (initial u c)) (initial u v) parts.0) [
                | inl none ↦ absurd
                    (both_ways (initial u c) (not-true _ none) start)
                | inr here ↦ here
              ];
          from_output = λ j k r m lt at out. by_output j k r m at out
              (every_below-at (length (lane p j).instructions)
              (λ k. follows_at u (rows j k v) c v (instruction_at p j k)) k
              (slice_get_within (lane p j).instructions k (Publish r) at)
              (every_below-at (length p) (λ j. every_below (length (lane p j).instructions)
              (λ k. follows_at u (rows j k v) c v (instruction_at p j k))) j lt parts.1));
        }
      where
        by_output : (j k r m : ℕ) → instruction_at p j k ≡ Some (Publish r)
            → slice_get (outputs u r) m ≡ Some c
            → follows_at u (rows j k v) c v (instruction_at p j k) ≡ true
            → (rows j k v ≡ true) ⊎ (contains (take (suc m) (outputs u r)) v ≡ true)
        by_output j k r m at out h =
            let all : follows_at u (rows j k v) c v (Some (Publish r)) ≡ true = rw at at h in
            let one =
            every_below-at (length (outputs u r))
            (λ m. not (is_that (slice_get (outputs u r) m) c) ||
            (rows j k v || contains (take (suc m) (outputs u r)) v)) m
            (slice_get_within (outputs u r) m c out) all in
            elim (or_cases _ _ one) [
              | inl none ↦
                  absurd (both_ways _ (not-true _ none) (ap (λ o. is_that o c) out ∙ same-refl c))
              | inr some ↦ or_cases (rows j k v) _ some
            ]

    fact_at : (c v : Variant) → IsFact u p rows c v → (j k : ℕ) → j < length p
        → (o : Option Instruction) → instruction_at p j k ≡ o
        → follows_at u (rows j k v) c v o ≡ true
    fact_at c v f j k lt None at = refl
    fact_at c v f j k lt (Some (Publish r)) at =
        every_below-all (length (outputs u r)) _
        (λ m in_outputs. by m (slice_get (outputs u r) m) refl)
      where
        by : (m : ℕ) (o : Option Variant) → slice_get (outputs u r) m ≡ o
            → (not (is_that (slice_get (outputs u r) m) c) ||
            (rows j k v || contains (take (suc m) (outputs u r)) v)) ≡ true
        by m None out = rw out refl
        by m (Some w) out =
            elim (cases_Bool (same w c)) [
              | inl yes_it ↦
                  or_right (not (is_that (slice_get (outputs u r) m) c))
                  (rows j k v || contains (take (suc m) (outputs u r)) v)
                  (elim (f.from_output j k r m lt at (out ∙ ap Some (same-true w c yes_it))) [
                    | inl known ↦
                        or_left (rows j k v) (contains (take (suc m) (outputs u r)) v) known
                    | inr with_it ↦
                        or_right (rows j k v) (contains (take (suc m) (outputs u r)) v) with_it
                  ])
              | inr not_it ↦
                  or_left (not (is_that (slice_get (outputs u r) m) c)) _
                  (not_from_false _ (ap (λ o. is_that o c) out ∙ not_it))
            ]
    fact_at c v f j k lt (Some _) at = refl

    pub fact-complete : (c v : Variant) → IsFact u p rows c v → is_fact u p rows c v ≡ true
    unfolding is_fact
    fact-complete c v f =
        and_from _ _
        (elim (cases_Bool (initial u c)) [
          | inl here ↦ or_right (not (initial u c)) _ (f.from_start here)
          | inr none ↦ or_left _
              (initial u v) (not_from_false _ none)
        ])
        (every_below-all (length p) _
        (λ j lt. every_below-all (length (lane p j).instructions) _
        (λ k lt'. fact_at c v f j k lt (instruction_at p j k) refl)))

    -- the test of what follows
    follows-sound : (l i : ℕ) (v : Variant) (passes : Variant → Bool)
        → follows u p rows l i v passes ≡ true → Follows u p rows l i v passes
    follows-sound l i v passes e =
        let parts = and_parts (possible u p l i v) _ e in (
          parts.0,
          λ c may sat. elim (or_cases _ _
              (every_variant-at u (λ c. not
              (possible u p l i c && passes c) || is_fact u p rows c v) c
              (possible-known p l i c may) parts.1)) [
                | inl none ↦ absurd (both_ways _ (not-true _ none) (and_from _ _ may sat))
                | inr fact ↦ fact-sound c v fact
              ],
        )

    follows-complete : (l i : ℕ) (v : Variant) (passes : Variant → Bool)
        → Follows u p rows l i v passes → follows u p rows l i v passes ≡ true
    follows-complete l i v passes add =
        and_from _ _ add.0
        (every_variant-all u (λ c. not (possible u p l i c && passes c) || is_fact u p rows c v)
        (λ c. elim (cases_Bool (possible u p l i c && passes c)) [
          | inl both ↦ let parts = and_parts _ _ both in
              or_right (not (possible u p l i c && passes c)) (is_fact u p rows c v)
              (fact-complete c v (add.1 c parts.0 parts.1))
          | inr none ↦
              or_left (not (possible u p l i c && passes c)) (is_fact u p rows c v)
              (not_from_false _ none)
        ]))

    -- the test of what an instruction adds
    pub adds-sound : (l i : ℕ) (v : Variant) (x : Instruction) → adds u p rows l i v x ≡ true
        → Adds u p rows l i v x
    adds-sound l i v (Publish r) e = e
    adds-sound l i v (Wait entry) e = follows-sound l i v (satisfies_entry u entry) e
    adds-sound l i v (When name wanted) e = follows-sound l i v (is_of u name wanted) e
    adds-sound l i v _ e = absurd (false≢true e)

    pub adds-complete : (l i : ℕ) (v : Variant) (x : Instruction) → Adds u p rows l i v x
        → adds u p rows l i v x ≡ true
    adds-complete l i v (Publish r) add = add
    adds-complete l i v (Wait entry) add = follows-complete l i v (satisfies_entry u entry) add
    adds-complete l i v (When name wanted) add = follows-complete l i v (is_of u name wanted) add
    adds-complete l i v _ add = absurd add
