-- A lane's local instructions go on where the lane does: behind the end of a branch, behind its
-- `end`.
use Rattle.std.proofs.Common.{◌≡◌, ℕ, zero, suc, Bool, true, false, inl, inr, List, [], ◌∷◌, drop, Some, slice_get, refl, sym, ap, ◌∙◌, subst}
use Rattle.std.proofs.lemmas.Option.{same_Some}
use Rattle.farm_model.specs.Universe.{Universe}
use Rattle.farm_model.specs.declared.types.Variant.{Variant}
use Rattle.plan_model.specs.Common.{past_end, landing_before, landing, Lane, next_place, LaneState, Goes, turn_of, settled, ready}
use Rattle.plan_model.specs.declared.instructions.Instruction.{Instruction}
use Rattle.plan_model.specs.declared.instructions.Instruction.TheVariants.{Otherwise, EndWhen}
use Rattle.farm_laws.proofs.Branches.{IsStand}
use Rattle.farm_laws.proofs.Places.{IsWhen, GoesOn, PlaceMove, turn_place}

-- the next of the instructions that are left
pub next_of : {X : Type 0} (xs : List X) (i : ℕ) (x : X) (rest : List X) → drop i xs ≡ x ∷ rest
    → (slice_get xs i ≡ Some x) × (drop (suc i) xs ≡ rest)
next_of [] zero x rest e = absurd (cc)
next_of [] (suc i) x rest e = absurd (cc)
next_of (y ∷ ys) zero x rest e =
    let a : y ≡ x = cc in let b : ys ≡ rest = cc in (ap (λ z. Some z) a, b)
next_of (y ∷ ys) (suc i) x rest e = next_of ys i x rest e

-- what a lane goes on to of the instructions that it comes to; behind an `else` it skips up to the
-- next `end`
abbrev pub going_on : Bool → List Instruction → List Instruction
going_on skips [] = []
going_on true (EndWhen ∷ xs) = going_on false xs
going_on true (x ∷ xs) = going_on true xs
going_on false (Otherwise ∷ xs) = going_on true xs
going_on false (EndWhen ∷ xs) = going_on false xs
going_on false (x ∷ xs) = x ∷ xs

-- so do its local instructions
settled_on : (u : Universe) (of : Lane) (skips : Bool) (xs : List Instruction) (st : LaneState)
    → settled u of skips xs st ≡ settled u of false (going_on skips xs) st
settled_on u of true [] st = refl
settled_on u of false [] st = refl
settled_on u of true (EndWhen ∷ xs) st = settled_on u of false xs st
settled_on u of true (x ∷ xs) st = settled_on u of true xs st
settled_on u of false (Otherwise ∷ xs) st = settled_on u of true xs st
settled_on u of false (EndWhen ∷ xs) st = settled_on u of false xs st
settled_on u of false (x ∷ xs) st = refl

-- so does the place behind the next `end`,
past_on : (is xs : List Instruction) (k : ℕ) → drop k is ≡ xs
    → going_on false (drop (past_end xs k) is) ≡ going_on true xs
past_on is [] k e = ap (going_on false) e
past_on is (EndWhen ∷ xs) k e = ap (going_on false) (next_of is k EndWhen xs e).1
past_on is (x ∷ xs) k e = past_on is xs (suc k) (next_of is k x xs e).1

-- and the place where a lane goes on
landing_on : (is : List Instruction) (k : ℕ)
    → going_on false (drop (landing is k) is) ≡ going_on false (drop k is)
unfolding landing
landing_on is k = by (drop k is) refl
  where
    by : (xs : List Instruction) → drop k is ≡ xs
        → going_on false (drop (landing_before xs k) is) ≡ going_on false xs
    by [] e = ap (going_on false) e
    by (Otherwise ∷ xs) e = past_on is xs (suc k) (next_of is k Otherwise xs e).1
    by (EndWhen ∷ xs) e = ap (going_on false) (next_of is k EndWhen xs e).1
    by (x ∷ xs) e = ap (going_on false) e

-- where a lane stands it skips nothing
pub standing_on : (is : List Instruction) (k : ℕ) → IsStand (slice_get is k)
    → going_on false (drop k is) ≡ drop k is
standing_on is k stands = by (drop k is) refl
  where
    by : (xs : List Instruction) → drop k is ≡ xs → going_on false xs ≡ xs
    by [] e = refl
    by (Otherwise ∷ xs) e = absurd (subst IsStand (next_of is k Otherwise xs e).0 stands)
    by (EndWhen ∷ xs) e = absurd (subst IsStand (next_of is k EndWhen xs e).0 stands)
    by (x ∷ xs) e = refl

-- behind an instruction it goes on to what comes after that
pub next_on : (of : Lane) (k next : ℕ) (x : Instruction) (xs : List Instruction)
    → drop k of.instructions ≡ x ∷ xs → next ≡ next_place of k
    → going_on false (drop next of.instructions) ≡ going_on false xs
next_on of k next x xs at place =
    ap (λ j. going_on false (drop j of.instructions)) place
    ∙ landing_on of.instructions (suc k)
    ∙ ap (going_on false) (next_of of.instructions k x xs at).1

-- so a lane that comes behind an instruction is ready where that leads
pub ready_behind : (u : Universe) (of : Lane) (k : ℕ) (next : LaneState) (x : Instruction)
    (xs : List Instruction) → drop k of.instructions ≡ x ∷ xs → next.done ≡ next_place of k
    → ready u of next ≡ settled u of false xs next
ready_behind u of k next x xs at place =
    settled_on u of false (drop next.done of.instructions) next
    ∙ ap (λ ys. settled u of false ys next) (next_on of k next.done x xs at place)
    ∙ sym (settled_on u of false xs next)

-- a local instruction that goes on leads behind itself
pub goes_behind : (u : Universe) (there : Variant → Bool) (of : Lane) (st next : LaneState)
    (x : Instruction) → (IsWhen x → ⊥) → turn_of u there of st (Some x) ≡ Goes next
    → next.done ≡ next_place of st.done
goes_behind u there of st next x plain e = elim on.place [
  | inl behind ↦ behind.1
  | inr other ↦ absurd (plain (subst IsWhen (sym (same_Some x on.instruction on.is)) other.0))
]
  where
    on : GoesOn u there of st (Some x) next
    on = subst (PlaceMove u there of st (Some x)) e (turn_place u there of st (Some x))
