-- Each output of a lane stands at one place of one publish.
use Rattle.std.proofs.Common.{◌≡◌, ◌⊎◌, inl, inr, ℕ, zero, suc, ◌+◌, ◌<◌, true, List, [], ◌∷◌, ◌++◌, length, take, Some, slice_get, refl, sym, ap, ◌∙◌, arith}
use Rattle.std.proofs.lemmas.List.{length-append}
use Rattle.std.proofs.lemmas.Option.{none-some}
use Rattle.std.proofs.lemmas.Bool.{both_ways}
use Rattle.farm_model.specs.Common.{Universe, initial, outputs}
use Rattle.farm_model.specs.declared.types.Variant.{Variant}
use Rattle.plan_model.specs.Common.{Plan, lane, lane_outputs, IsSound}
use Rattle.plan_model.specs.declared.instructions.Instruction.{Instruction}
use Rattle.plan_model.specs.declared.instructions.Instruction.TheVariants.{Publish}
use Rattle.verdict_laws.specs.Clocks.{OutputsAreUnique}
use Rattle.verdict_laws.proofs.Made.{made}

-- an element of two lists, one behind the other
slice_get-split : {X : Type 0} (xs ys : List X) (n : ℕ)
    → ((n < length xs) × (slice_get (xs ++ ys) n ≡ slice_get xs n))
    ⊎ ((k : ℕ) × (n ≡ length xs + k) × (slice_get (xs ++ ys) n ≡ slice_get ys k))
slice_get-split [] ys n = inr (n, omega arith, refl)
slice_get-split (x ∷ xs) ys zero = inl (omega arith, refl)
slice_get-split (x ∷ xs) ys (suc n) =
    elim (slice_get-split xs ys n) [
      | inl first ↦ inl (omega (arith, first.0), first.1)
      | inr then ↦ inr (then.0, omega (arith, then.1), then.2)
    ]

-- the publish that makes output n of these instructions, v, and the number of v there
pub record OutputAt (u : Universe) (is : List Instruction) (n : ℕ) (v : Variant) : Type 0 where
  pub place : ℕ
  pub recipe : ℕ
  pub number : ℕ
  pub publish : slice_get is place ≡ Some (Publish recipe)
  pub output : slice_get (outputs u recipe) number ≡ Some v
  pub counted : n ≡ length (made u (take place is)) + number

-- behind an instruction that makes nothing
behind : (u : Universe) (x : Instruction) (xs : List Instruction) (n : ℕ) (v : Variant)
    → ((k : ℕ) → made u (take (suc k) (x ∷ xs)) ≡ made u (take k xs)) → OutputAt u xs n v
    → OutputAt u (x ∷ xs) n v
behind u x xs n v same at =
    record {
      place = suc at.place;
      recipe = at.recipe;
      number = at.number;
      publish = at.publish;
      output = at.output;
      counted = at.counted ∙ ap (λ vs. length vs + at.number) (sym (same at.place));
    }

pub output_at : (u : Universe) (is : List Instruction) (n : ℕ) (v : Variant)
    → slice_get (made u is) n ≡ Some v → OutputAt u is n v
output_at u [] n v e = absurd (none-some v e)
output_at u (Publish r ∷ xs) n v e =
    elim (slice_get-split (outputs u r) (made u xs) n) [
      | inl first ↦
          record {
            place = 0;
            recipe = r;
            number = n;
            publish = refl;
            output = sym first.1 ∙ e;
            counted = omega arith;
          }
      | inr then ↦
          let at = output_at u xs then.0 v (sym then.2 ∙ e) in
          let long = length-append (outputs u r) (made u (take at.place xs)) in
          record {
            place = suc at.place;
            recipe = at.recipe;
            number = at.number;
            publish = at.publish;
            output = at.output;
            counted = omega (arith, then.1, at.counted, long);
          }
    ]
output_at u (x ∷ xs) n v e = behind u x xs n v (λ k. refl) (output_at u xs n v e)

module _ (u : Universe) (p : Plan) (sound : IsSound u p) where
  once : (j h n m : ℕ) (v : Variant) → j < length p → h < length p
      → slice_get (lane_outputs u (lane p j)) n ≡ Some v
      → slice_get (lane_outputs u (lane p h)) m ≡ Some v
      → (j ≡ h) × (n ≡ m)
  once j h n m v j_lt h_lt first other =
      let a = output_at u (lane p j).instructions n v first in
      let b = output_at u (lane p h).instructions m v other in
      let same = sound.universe.outputs_once a.recipe b.recipe a.number b.number v a.output
      b.output in
      let here =
      sound.plan.published_once j h a.place b.place b.recipe j_lt h_lt
      (a.publish ∙ ap (λ r. Some (Publish r)) same.0) b.publish in (
        here.0,
        a.counted ∙ ap (λ l. length (made u (take a.place
            (lane p l).instructions)) + a.number) here.0
            ∙ ap (λ i. length (made u (take i (lane p h).instructions)) + a.number) here.1
            ∙ ap (λ k. length (made u (take b.place (lane p h).instructions)) + k) same.1
            ∙ sym b.counted,
      )

  fresh : (j n : ℕ) (v : Variant) → j < length p → slice_get (lane_outputs u (lane p j)) n ≡ Some v
      → initial u v ≡ true → ⊥
  fresh j n v lt at here =
      let a = output_at u (lane p j).instructions n v at in
      both_ways _ (sound.universe.outputs_new a.recipe a.number v a.output) here

pub outputs_are_unique : OutputsAreUnique
outputs_are_unique u p sound = record { once = once u p sound; fresh = fresh u p sound }
