-- Families that keep to the inclusions: what they have is possible, and a union of them keeps.
use Rattle.std.proofs.Common.{◌≡◌, ◌⊎◌, inl, inr, ℕ, zero, suc, ◌<◌, ◌≤◌, true, [], ◌∷◌, length, take, get_or, Some, refl, ap, ◌∙◌, subst, arith, add-one}
use Rattle.std.specs.Cmp.{both_ways as same_tests}
use Rattle.std.specs.List.{list_any}
use Rattle.std.proofs.lemmas.Bool.{or_cases, or_left, or_right, cases_eq, eq-eqb, ne_eqb}
use Rattle.std.proofs.lemmas.List.Folds.{list_any-append, list_any_kept}
use Rattle.std.proofs.lemmas.Option.{slice_get-get_or, slice_get_within}
use Rattle.farm_model.specs.Common.{Universe, contains, initial, outputs}
use Rattle.farm_model.specs.declared.types.Variant.{Variant}
use Rattle.farm_model.proofs.BelowLaws.{some_below-at, some_below-mono}
use Rattle.plan_model.specs.Common.{Plan, lane, instruction_at, Rows, gives, within_reach, possible, IsFact, Adds, row_before, KeepsRows}
use Rattle.plan_model.specs.declared.instructions.Instruction.{Instruction}
use Rattle.plan_model.specs.declared.instructions.Instruction.TheVariants.{Publish, Wait, When}
use Rattle.farm_laws.proofs.Archive.{take_some}
use Rattle.verdict_laws.proofs.RowBefore.{row_before-le, each_place}
use Rattle.verdict_laws.specs.Families.{IsWithin, KnownArePossible, UnionsKeep, UnionOfTwoKeeps, GreatestIsOne}

-- the instruction at a place of a lane
pub there : (p : Plan) (l i : ℕ) → i < length (lane p l).instructions → (x : Instruction)
    × (instruction_at p l i ≡ Some x)
there p l i lt = (
  get_or (lane p l).instructions i (Wait []),
  slice_get-get_or (lane p l).instructions i
      (Wait []) lt,
)

-- more rows give more
IsFact-mono : (u : Universe) (p : Plan) (rows more : Rows) (c v : Variant) → IsWithin p rows more
    → IsFact u p rows c v → IsFact u p more c v
IsFact-mono u p rows more c v within f =
    record {
      from_start = f.from_start;
      from_output = λ j k r m lt at out. elim (f.from_output j k r m lt at out) [
        | inl known ↦
            inl (within j k v lt (let below = slice_get_within (lane p j).instructions k
            (Publish r) at in omega arith) known)
        | inr with_it ↦ inr with_it
      ];
    }

pub Adds-mono : (u : Universe) (p : Plan) (rows more : Rows) (l i : ℕ) (v : Variant)
    (x : Instruction) → IsWithin p rows more → Adds u p rows l i v x → Adds u p more l i v x
Adds-mono u p rows more l i v (Wait e) within add =
    (add.0, λ c may sat. IsFact-mono u p rows more c v within (add.1 c may sat))
Adds-mono u p rows more l i v (When name wanted) within add =
    (add.0, λ c may sat. IsFact-mono u p rows more c v within (add.1 c may sat))
Adds-mono u p rows more l i v _ within add = add

-- a place further on, no less is possible
more_possible : (u : Universe) (p : Plan) (l i : ℕ) (v : Variant) → possible u p l i v ≡ true
    → possible u p l (suc i) v ≡ true
unfolding possible
more_possible u p l i v e =
    elim (or_cases (initial u v) _ e) [
      | inl is ↦ or_left (initial u v) _ is
      | inr some ↦
          or_right (initial u v) _ (some_below-mono (length p) _ _
          (λ j lt h. by j h (cases_eq j l)) some)
    ]
  where
    by : (j : ℕ) → list_any (gives u v) (within_reach p l i j) ≡ true → (j ≡ l) ⊎ (j ≡ l → ⊥)
        → list_any (gives u v) (within_reach p l (suc i) j) ≡ true
    by j h (inl is) =
        let own : list_any (gives u v) (take i (lane p j).instructions) ≡ true =
        rw (eq-eqb j l is) at h in
        rw (eq-eqb j l is, ← add-one) (list_any_kept (gives u v) (lane p j).instructions i own)
    by j h (inr other) =
        let all : list_any (gives u v) (lane p j).instructions ≡ true =
        rw (ne_eqb j l other) at h in rw (ne_eqb j l other) all

-- nor at any later place
possible_on : (u : Universe) (p : Plan) (l k i : ℕ) (v : Variant) → k ≤ i
    → possible u p l k v ≡ true → possible u p l i v ≡ true
possible_on u p l k zero v le e = let same : k ≡ 0 = omega (arith, le) in
    subst (λ j. possible u p l j v ≡ true) same e
possible_on u p l k (suc i) v le e =
    elim (cases_eq k (suc i)) [
      | inl same ↦ subst (λ j. possible u p l j v ≡ true) same e
      | inr other ↦ more_possible u p l i v (possible_on u p l k i v (omega (arith, le, other)) e)
    ]

-- behind a publish its outputs are possible
published_possible : (u : Universe) (p : Plan) (l i r : ℕ) (v : Variant) → l < length p
    → instruction_at p l i ≡ Some (Publish r) → contains (outputs u r) v ≡ true
    → possible u p l (suc i) v ≡ true
unfolding possible
published_possible u p l i r v lt at e =
    or_right (initial u v) _
    (some_below-at (length p) (λ j. list_any (gives u v) (within_reach p l (suc i) j)) l lt
    (rw (eq-eqb l l refl)
    (ap (list_any (gives u v)) (take_some (lane p l).instructions i (Publish r) at)
    ∙ list_any-append (gives u v) (take i (lane p l).instructions) (Publish r ∷ [])
    ∙ or_right _ _ (or_left (contains (outputs u r) v) _ e))))

adds_possible : (u : Universe) (p : Plan) (rows : Rows) (l i : ℕ) (v : Variant) (x : Instruction)
    → l < length p → instruction_at p l i ≡ Some x → Adds u p rows l i v x
    → possible u p l (suc i) v ≡ true
adds_possible u p rows l i v (Publish r) lt at add = published_possible u p l i r v lt at add
adds_possible u p rows l i v (Wait e) lt at add = more_possible u p l i v add.0
adds_possible u p rows l i v (When name wanted) lt at add = more_possible u p l i v add.0
adds_possible u p rows l i v _ lt at add = absurd add

possible_at_start : (u : Universe) (p : Plan) (l : ℕ) (v : Variant) → initial u v ≡ true
    → possible u p l 0 v ≡ true
unfolding possible
possible_at_start u p l v e = or_left (initial u v) _ e

module _ (u : Universe) (p : Plan) (rows : Rows) (keeps : KeepsRows u p rows) (l : ℕ)
    (lt : l < length p) where
  -- what is known at the place is possible there
  abbrev KnownAt : ℕ → Type 0
  KnownAt i = (v : Variant) → i ≤ length (lane p l).instructions → rows l i v ≡ true
      → possible u p l i v ≡ true

  known_behind : (i : ℕ) → ((k : ℕ) → k ≤ i → KnownAt k) → KnownAt (suc i)
  known_behind i before v le e =
      let x = there p l i (omega (arith, le)) in
      let back = row_before-le p l i x.0 in
      elim (keeps.after l i x.0 v lt x.1 e) [
        | inl old ↦
            possible_on u p l (row_before p l i x.0) (suc i) v (omega (arith, back))
            (before (row_before p l i x.0) back v (omega (arith, back, le)) old)
        | inr new ↦ adds_possible u p rows l i v x.0 lt x.1 new
      ]

  known_at : (i : ℕ) → KnownAt i
  known_at = each_place KnownAt
      (λ v le e. possible_at_start u p l v (keeps.at_start l v lt e)) known_behind

pub known_are_possible : KnownArePossible
known_are_possible u p rows keeps l i v lt le e = known_at u p rows keeps l lt i v le e

pub unions_keep : UnionsKeep
unions_keep u p rows union =
    record {
      at_start =
          λ l v lt e. let part = union l 0 v lt (omega arith) e in part.1.at_start l v lt part.3;
      after = λ l i x v lt at e.
          let below = slice_get_within (lane p l).instructions i x at in
          let back = row_before-le p l i x in
          let part = union l (suc i) v lt (omega arith) e in
          elim (part.1.after l i x v lt at part.3) [
            | inl old ↦
                inl (part.2 l (row_before p l i x) v lt (omega (arith, below, back)) old)
            | inr new ↦ inr (Adds-mono u p part.0 rows l i v x part.2 new)
          ];
    }

pub union_of_two_keeps : UnionOfTwoKeeps
union_of_two_keeps u p rows more keeps keeps_more =
    unions_keep u p _
    (λ l i v lt le e. elim (or_cases (rows l i v) (more l i v) e) [
      | inl one ↦ (rows, keeps, λ k j w lt' le' h. or_left (rows k j w) (more k j w) h, one)
      | inr other ↦
          (more, keeps_more, λ k j w lt' le' h. or_right (rows k j w) (more k j w) h, other)
    ])

pub greatest_is_one : GreatestIsOne
greatest_is_one u p rows more a b l i v lt le =
    same_tests (rows l i v) (more l i v) (b.greatest rows a.keeps l i v lt le)
    (a.greatest more b.keeps l i v lt le)
