-- The next `else` and the next `end`, instruction by instruction.
use Rattle.std.proofs.Common.{◌≡◌, ℕ, zero, suc, ◌+◌, ◌<◌, ◌≤◌, true, false, List, [], ◌∷◌, length, drop, refl, sym, ap, ◌∙◌, arith}
use Rattle.std.specs.Prelude.{slice_index_or}
use Rattle.std.proofs.Math.ListN.{drop_of_length-le}
use Rattle.plan_model.specs.Branches.{past_else, past_end, landing_before, landing}
use Rattle.plan_model.specs.declared.instructions.Instruction.{Instruction}
use Rattle.plan_model.specs.declared.instructions.Instruction.TheVariants.{Otherwise, EndWhen}
use Rattle.plan_reader.specs.Landings.{is_otherwise, is_end_when}

-- the list from a place of it on
drop-suc : (xs : List Instruction) (k : ℕ) (x : Instruction) → k < length xs
    → x ≡ slice_index_or xs k x → drop k xs ≡ x ∷ drop (suc k) xs
drop-suc [] k x lt e = absurd (omega (arith, lt))
drop-suc (y ∷ ys) zero x lt e = ap (λ z. z ∷ ys) (sym e)
drop-suc (y ∷ ys) (suc k) x lt e = drop-suc ys k x (omega (arith, lt)) e

one-more : (k : ℕ) → suc k ≡ k + 1
one-more k = omega arith

drop-at : (xs : List Instruction) (k : ℕ) (x : Instruction) → k < length xs
    → x ≡ slice_index_or xs k x → drop k xs ≡ x ∷ drop (k + 1) xs
drop-at xs k x lt e = drop-suc xs k x lt e ∙ ap (λ j. x ∷ drop j xs) (one-more k)

else-there : (x : Instruction) (xs : List Instruction) (k : ℕ) → is_otherwise x ≡ true
    → past_else (x ∷ xs) k ≡ k + 1
else-there Otherwise xs k e = omega arith
else-there _ xs k e = cc

else-past : (x : Instruction) (xs : List Instruction) (k : ℕ) → is_otherwise x ≡ false
    → past_else (x ∷ xs) k ≡ past_else xs (k + 1)
else-past Otherwise xs k e = cc
else-past _ xs k e = ap (past_else xs) (omega arith)

end-there : (x : Instruction) (xs : List Instruction) (k : ℕ) → is_end_when x ≡ true
    → past_end (x ∷ xs) k ≡ k + 1
end-there EndWhen xs k e = omega arith
end-there _ xs k e = cc

end-past : (x : Instruction) (xs : List Instruction) (k : ℕ) → is_end_when x ≡ false
    → past_end (x ∷ xs) k ≡ past_end xs (k + 1)
end-past EndWhen xs k e = cc
end-past _ xs k e = ap (past_end xs) (omega arith)

module _ (xs : List Instruction) (k : ℕ) (x : Instruction) (lt : k < length xs)
    (here : x ≡ slice_index_or xs k x) where
  pub else-here : is_otherwise x ≡ true → past_else (drop k xs) k ≡ k + 1
  else-here e = ap (λ ys. past_else ys k) (drop-at xs k x lt here)
      ∙ else-there x (drop (k + 1) xs) k e

  pub else-next : is_otherwise x ≡ false
      → past_else (drop k xs) k ≡ past_else (drop (k + 1) xs) (k + 1)
  else-next e = ap (λ ys. past_else ys k) (drop-at xs k x lt here)
      ∙ else-past x (drop (k + 1) xs) k e

  pub end-here : is_end_when x ≡ true → past_end (drop k xs) k ≡ k + 1
  end-here e = ap (λ ys. past_end ys k) (drop-at xs k x lt here)
      ∙ end-there x (drop (k + 1) xs) k e

  pub end-next : is_end_when x ≡ false
      → past_end (drop k xs) k ≡ past_end (drop (k + 1) xs) (k + 1)
  end-next e = ap (λ ys. past_end ys k) (drop-at xs k x lt here)
      ∙ end-past x (drop (k + 1) xs) k e

-- where a lane that comes to a place goes on
module _ (xs : List Instruction) (k : ℕ) where
  pub land-past : length xs ≤ k → k ≡ landing xs k
  unfolding landing
  land-past le = sym (ap (λ ys. landing_before ys k) (drop_of_length-le xs le))

  module _ (x : Instruction) (lt : k < length xs) (here : x ≡ slice_index_or xs k x) where
    before : landing xs k ≡ landing_before (x ∷ drop (k + 1) xs) k
    unfolding landing
    before = ap (λ ys. landing_before ys k) (drop-at xs k x lt here)

    pub land-otherwise : is_otherwise x ≡ true → past_end (drop (k + 1) xs) (k + 1) ≡ landing xs k
    land-otherwise e = sym (before ∙ by x e)
      where
        by : (y : Instruction) → is_otherwise y ≡ true
            → landing_before (y ∷ drop (k + 1) xs) k ≡ past_end (drop (k + 1) xs) (k + 1)
        by Otherwise f = ap (past_end (drop (k + 1) xs)) (one-more k)
        by _ f = cc

    pub land-end : is_end_when x ≡ true → k + 1 ≡ landing xs k
    land-end e = sym (before ∙ by x e)
      where
        by : (y : Instruction) → is_end_when y ≡ true
            → landing_before (y ∷ drop (k + 1) xs) k ≡ k + 1
        by EndWhen f = one-more k
        by _ f = cc

    pub land-here : is_otherwise x ≡ false → is_end_when x ≡ false → k ≡ landing xs k
    land-here e f = sym (before ∙ by x e f)
      where
        by : (y : Instruction) → is_otherwise y ≡ false → is_end_when y ≡ false
            → landing_before (y ∷ drop (k + 1) xs) k ≡ k
        by Otherwise e f = cc
        by EndWhen e f = cc
        by _ e f = refl
