-- Which outputs may be in the archive at a place.
use Rattle.std.proofs.Common.{◌≡◌, ◌⊎◌, inl, inr, ℕ, zero, suc, ◌<◌, Bool, true, List, [], ◌∷◌, length, take, Some, slice_get, refl, sym, ap, ◌∙◌, arith}
use Rattle.std.specs.List.{list_any}
use Rattle.std.proofs.lemmas.Bool.{or_cases, or_left, or_right, cases_eq, eq-eqb, ne_eqb, false≢true, both_ways}
use Rattle.farm_model.specs.Common.{Universe, same, contains, initial, outputs}
use Rattle.farm_model.specs.declared.types.Variant.{Variant}
use Rattle.farm_model.proofs.BelowLaws.{some_below-at, some_below-found}
use Rattle.farm_laws.proofs.Archive.{list_any-some, same-true, same-refl}
use Rattle.plan_model.specs.Common.{Plan, lane, instruction_at, gives, within_reach, possible, IsSound}
use Rattle.plan_model.specs.declared.instructions.Instruction.{Instruction}
use Rattle.plan_model.specs.declared.instructions.Instruction.TheVariants.{Publish}

-- an element of a first part
pub take-get : {X : Type 0} (i k : ℕ) (xs : List X) (x : X) → k < i → slice_get xs k ≡ Some x
    → slice_get (take i xs) k ≡ Some x
take-get zero k xs x lt e = absurd (omega (arith, lt))
take-get (suc i) k [] x lt e = e
take-get (suc i) zero (y ∷ ys) x lt e = e
take-get (suc i) (suc k) (y ∷ ys) x lt e = take-get i k ys x (omega (arith, lt)) e

-- what passes a test in a first part
pub record Found {X : Type 0} (p : X → Bool) (i : ℕ) (xs : List X) : Type 0 where
  pub place : ℕ
  pub element : X
  pub before : place < i
  pub at : slice_get xs place ≡ Some element
  pub passes : p element ≡ true

pub found-in : {X : Type 0} (p : X → Bool) (i : ℕ) (xs : List X) → list_any p (take i xs) ≡ true
    → Found p i xs
found-in p zero xs e = absurd (false≢true e)
found-in p (suc i) [] e = absurd (false≢true e)
found-in p (suc i) (x ∷ xs) e =
    elim (or_cases (p x) _ e) [
      | inl here ↦
          record { place = 0; element = x; before = omega arith; at = refl; passes = here }
      | inr there ↦
          let f = found-in p i xs there in
          record {
            place = suc f.place;
            element = f.element;
            before = omega (arith, f.before);
            at = f.at;
            passes = f.passes;
          }
    ]

pub found-all : {X : Type 0} (p : X → Bool) (xs : List X) → list_any p xs ≡ true
    → Found p (length xs) xs
found-all p [] e = absurd (false≢true e)
found-all p (x ∷ xs) e =
    elim (or_cases (p x) _ e) [
      | inl here ↦
          record { place = 0; element = x; before = omega arith; at = refl; passes = here }
      | inr there ↦
          let f = found-all p xs there in
          record {
            place = suc f.place;
            element = f.element;
            before = omega (arith, f.before);
            at = f.at;
            passes = f.passes;
          }
    ]

-- the place of an output among those of an instruction
record Given (u : Universe) (c : Variant) (x : Instruction) : Type 0 where
  pub recipe : ℕ
  pub number : ℕ
  pub publish : x ≡ Publish recipe
  pub output : slice_get (outputs u recipe) number ≡ Some c

contained : (vs : List Variant) (c : Variant) → contains vs c ≡ true → (n : ℕ)
    × (slice_get vs n ≡ Some c)
contained [] c e = absurd (false≢true e)
contained (v ∷ vs) c e =
    elim (or_cases (same v c) _ e) [
      | inl here ↦ (0, ap Some (same-true v c here))
      | inr there ↦ let r = contained vs c there in (suc r.0, r.1)
    ]

given : (u : Universe) (c : Variant) (x : Instruction) → gives u c x ≡ true → Given u c x
given u c (Publish r) e =
    let n = contained (outputs u r) c e in
    record { recipe = r; number = n.0; publish = refl; output = n.1 }
given u c _ e = absurd (false≢true e)

module _ (u : Universe) (p : Plan) (sound : IsSound u p) where
  one_place : (h k r m : ℕ) (c : Variant) → h < length p → instruction_at p h k ≡ Some (Publish r)
      → slice_get (outputs u r) m ≡ Some c → (j i : ℕ) (x : Instruction) → j < length p
      → instruction_at p j i ≡ Some x → gives u c x ≡ true → (h ≡ j) × (k ≡ i)
  one_place h k r m c h_lt at out j i x j_lt at_x g =
      let f = given u c x g in
      let same_recipe = sound.universe.outputs_once r f.recipe m f.number c out f.output in
      sound.plan.published_once h j k i f.recipe h_lt j_lt
      (at ∙ ap (λ q. Some (Publish q)) same_recipe.0) (at_x ∙ ap Some f.publish)

  -- a lane's own output that is possible was made before
  pub own_before : (l i k r m : ℕ) (c : Variant) → l < length p
      → instruction_at p l k ≡ Some (Publish r) → slice_get (outputs u r) m ≡ Some c
      → possible u p l i c ≡ true → k < i
  unfolding possible
  own_before l i k r m c lt at out e =
      elim (or_cases (initial u c) _ e) [
        | inl is ↦ absurd (both_ways _ (sound.universe.outputs_new r m c out) is)
        | inr some ↦
            let f = some_below-found (length p) (λ j. list_any (gives u c) (within_reach p l i j))
            some in
            by f.0 f.1 f.2 (cases_eq f.0 l)
      ]
    where
      by : (j : ℕ) → j < length p → list_any (gives u c) (within_reach p l i j) ≡ true
          → (j ≡ l) ⊎ (j ≡ l → ⊥) → k < i
      by j j_lt g (inl here) =
          let g1 : list_any (gives u c) (take i (lane p j).instructions) ≡ true =
          rw (eq-eqb j l here) at g in
          let f = found-in (gives u c) i (lane p j).instructions g1 in
          let q = one_place l k r m c lt at out j f.place f.element j_lt f.at f.passes in
          omega (arith, q.1, f.before)
      by j j_lt g (inr other) =
          let g1 : list_any (gives u c) (lane p j).instructions ≡ true =
          rw (ne_eqb j l other) at g in
          let f = found-all (gives u c) (lane p j).instructions g1 in
          let q = one_place l k r m c lt at out j f.place f.element j_lt f.at f.passes in
          absurd (other (sym q.0))

contains-get : (vs : List Variant) (m : ℕ) (c : Variant) → slice_get vs m ≡ Some c → contains vs c
    ≡ true
contains-get vs m c e = list_any-some (λ w. same w c) vs m c e (same-refl c)

-- an output of another lane is possible, and an own one behind its publish
pub output_possible : (u : Universe) (p : Plan) (l i h k r m : ℕ) (c : Variant) → h < length p
    → instruction_at p h k ≡ Some (Publish r) → slice_get (outputs u r) m ≡ Some c
    → (h ≡ l → k < i) → possible u p l i c ≡ true
unfolding possible
output_possible u p l i h k r m c lt at out own =
    or_right (initial u c) _
    (some_below-at (length p) (λ j. list_any (gives u c) (within_reach p l i j)) h lt
    (by (cases_eq h l)))
  where
    g : gives u c (Publish r) ≡ true
    g = contains-get (outputs u r) m c out

    by : (h ≡ l) ⊎ (h ≡ l → ⊥) → list_any (gives u c) (within_reach p l i h) ≡ true
    by (inl here) =
        rw (eq-eqb h l here) (list_any-some (gives u c) (take i (lane p h).instructions) k
        (Publish r)
        (take-get i k (lane p h).instructions (Publish r) (own here) at) g)
    by (inr other) =
        rw (ne_eqb h l other) (list_any-some (gives u c) (lane p h).instructions k (Publish r) at g)

pub initial_possible : (u : Universe) (p : Plan) (l i : ℕ) (c : Variant) → initial u c ≡ true
    → possible u p l i c ≡ true
unfolding possible
initial_possible u p l i c e = or_left (initial u c) _ e
