-- The row that holds behind an instruction, and the `when` that is open there.
use Rattle.std.proofs.Common.{◌≡◌, ℕ, zero, suc, ◌+◌, true, false, List, Option, Some, None, slice_get, refl, sym, ap, ◌∙◌, arith}
use Rattle.std.proofs.lemmas.Bool.{false≢true}
use Rattle.plan_model.specs.Common.{Side, Outside, InFirst, InSecond, second_of, side_behind, side_behind_some, side_at, home, row_before, teaches, Plan, lane, instruction_at}
use Rattle.plan_model.specs.declared.instructions.Instruction.{Instruction}
use Rattle.plan_model.specs.declared.instructions.Instruction.TheVariants.{Publish, Wait, When, Otherwise, EndWhen}
use Rattle.plan_cert.specs.Opens.{open_of, open_at, open_behind, or_here, place_before}
use Rattle.plan_cert.specs.Stated.{rows_before, HeldRows, branch_ended, held_behind, held_behind_some, held_at}

module _ (p : Plan) (l : ℕ) where
  abbrev xs : List Instruction
  xs = (lane p l).instructions

  -- inside a branch what is ahead is what held at its `when`
  abbrev IsAhead : Side → HeldRows → Type 0
  IsAhead Outside held = Unit {0}
  IsAhead (InFirst w) held = held.ahead ≡ (held_at p l w).here
  IsAhead (InSecond w) held = held.ahead ≡ (held_at p l w).here

  ahead-same : (s : Side) (held next : HeldRows) → next.ahead ≡ held.ahead → IsAhead s held
      → IsAhead s next
  ahead-same Outside held next same ahead = tt
  ahead-same (InFirst w) held next same ahead = same ∙ ahead
  ahead-same (InSecond w) held next same ahead = same ∙ ahead

  ahead-second : (s : Side) (held : HeldRows) → IsAhead s held
      → IsAhead (second_of s) (branch_ended s held)
  ahead-second Outside held ahead = tt
  ahead-second (InFirst w) held ahead = ahead
  ahead-second (InSecond w) held ahead = ahead

  ahead-behind : (s : Side) (k listed : ℕ) (x : Instruction) (held : HeldRows)
      → held.here ≡ (held_at p l k).here → IsAhead s held
      → IsAhead (side_behind k s x) (held_behind s listed held x)
  ahead-behind s k listed (Publish r) held here ahead = ahead-same s held _ refl ahead
  ahead-behind s k listed (Wait e) held here ahead = ahead-same s held _ refl ahead
  ahead-behind s k listed (When name wanted) held here ahead = here
  ahead-behind s k listed Otherwise held here ahead = ahead-second s held ahead
  ahead-behind s k listed EndWhen held here ahead = tt
  ahead-behind s k listed _ held here ahead = ahead

  ahead-at : (k : ℕ) → IsAhead (side_at xs k) (held_at p l k)
  ahead-at zero = tt
  ahead-at (suc k) = by (slice_get xs k) (ahead-at k)
    where
      by : (o : Option Instruction) → IsAhead (side_at xs k) (held_at p l k)
          → IsAhead (side_behind_some k (side_at xs k) o)
          (held_behind_some (side_at xs k) (rows_before p l (suc k)) (held_at p l k) o)
      by None ahead = ahead
      by (Some x) ahead =
          ahead-behind (side_at xs k) k (rows_before p l (suc k)) x (held_at p l k) refl ahead

  ended-here : (s : Side) (k : ℕ) (held : HeldRows) → held.here ≡ (held_at p l k).here
      → IsAhead s held → (branch_ended s held).here ≡ (held_at p l (home s k)).here
  ended-here Outside k held here ahead = here
  ended-here (InFirst w) k held here ahead = ahead
  ended-here (InSecond w) k held here ahead = ahead

  home-open : (s : Side) (k : ℕ) → or_here k (open_of s) ≡ home s k
  home-open Outside k = refl
  home-open (InFirst w) k = refl
  home-open (InSecond w) k = refl

  pub before-is : (i : ℕ) (x : Instruction) → place_before i (open_at p l i) x ≡ row_before p l i x
  before-is i Otherwise = home-open (side_at xs i) i
  before-is i EndWhen = home-open (side_at xs i) i
  before-is i _ = refl

  open-second : (s : Side) → open_of (second_of s) ≡ open_of s
  open-second Outside = refl
  open-second (InFirst w) = refl
  open-second (InSecond w) = refl

  open-side : (s : Side) (i : ℕ) (x : Instruction)
      → open_of (side_behind i s x) ≡ open_behind i (open_of s) x
  open-side s i (When name wanted) = refl
  open-side s i Otherwise = open-second s
  open-side s i EndWhen = refl
  open-side s i _ = refl

  module _ (i : ℕ) (x : Instruction) (at : instruction_at p l i ≡ Some x) where
    pub open-next : open_at p l (i + 1) ≡ open_behind i (open_at p l i) x
    open-next =
        ap (open_at p l) (let e : i + 1 ≡ suc i = omega arith in e)
        ∙ ap (λ o. open_of (side_behind_some i (side_at xs i) o)) at
        ∙ open-side (side_at xs i) i x

    held-next : held_at p l (suc i)
        ≡ held_behind (side_at xs i) (rows_before p l (suc i)) (held_at p l i) x
    held-next =
        ap (held_behind_some (side_at xs i) (rows_before p l (suc i)) (held_at p l i)) at

    -- what has no row leaves the lane with the row of the place from which it goes on
    pub held-quiet : teaches x ≡ false
        → (held_at p l (suc i)).here ≡ (held_at p l (row_before p l i x)).here
    held-quiet quiet = ap (λ (h : HeldRows). h.here) held-next ∙ by x quiet
      where
        by : (y : Instruction) → teaches y ≡ false
            → (held_behind (side_at xs i) (rows_before p l (suc i)) (held_at p l i) y).here
            ≡ (held_at p l (row_before p l i y)).here
        by (Publish r) none = absurd (false≢true (sym none))
        by (Wait e) none = absurd (false≢true (sym none))
        by (When name wanted) none = absurd (false≢true (sym none))
        by Otherwise none = ended-here (side_at xs i) i (held_at p l i) refl (ahead-at i)
        by EndWhen none = ended-here (side_at xs i) i (held_at p l i) refl (ahead-at i)
        by _ none = refl

    -- what has a row leaves the lane with it
    pub held-learns : teaches x ≡ true → (held_at p l (suc i)).here ≡ rows_before p l (suc i)
    held-learns learnt = ap (λ (h : HeldRows). h.here) held-next ∙ by x learnt
      where
        by : (y : Instruction) → teaches y ≡ true
            → (held_behind (side_at xs i) (rows_before p l (suc i)) (held_at p l i) y).here
            ≡ rows_before p l (suc i)
        by (Publish r) some = refl
        by (Wait e) some = refl
        by (When name wanted) some = refl
        by _ some = absurd (false≢true some)
