-- The point whose counts hold behind an instruction is that of the place from which the lane's row
-- goes on.
use Rattle.std.proofs.Common.{◌≡◌, ℕ, zero, suc, true, List, Option, Some, None, slice_get, refl, sym, ap, ◌∙◌, arith}
use Rattle.std.proofs.lemmas.Bool.{false≢true}
use Rattle.plan_model.specs.Common.{Side, Outside, InFirst, InSecond, second_of, side_behind, side_behind_some, side_at, home, may_stand, IsBranched, Plan, lane, instruction_at, row_before}
use Rattle.plan_model.specs.declared.instructions.Instruction.{Instruction}
use Rattle.plan_model.specs.declared.instructions.Instruction.TheVariants.{Publish, Wait, When, Otherwise, EndWhen}
use Rattle.known_rows.specs.declared.marks.LastPoints.{LastPoints}
use Rattle.known_rows.specs.Points.{one_point, point_number, last_after, last_after_some, lasts_at, last_point}
use Rattle.known_rows.proofs.Numbering.{lasts-next}

pub last-here : (p : Plan) (l i : ℕ) (x : Instruction) → instruction_at p l i ≡ Some x
    → one_point x ≡ 1 → last_point p l (suc i) ≡ Some (point_number p l i)
last-here p l i x at one =
    ap (λ (s : LastPoints). s.here) (lasts-next p l i x at) ∙ by x one
  where
    by : (y : Instruction) → one_point y ≡ 1
        → (last_after y (point_number p l i) (lasts_at p l i)).here ≡ Some (point_number p l i)
    by (Wait e) one = refl
    by (When name wanted) one = refl
    by _ one = absurd (omega (arith, one))

module _ (p : Plan) (l : ℕ) (branched : IsBranched (lane p l).instructions) where
  abbrev xs : List Instruction
  xs = (lane p l).instructions

  -- inside a branch the point ahead is that of its `when`'s place
  abbrev IsAhead : Side → LastPoints → Type 0
  IsAhead Outside last = Unit {0}
  IsAhead (InFirst w) last = last.ahead ≡ last_point p l w
  IsAhead (InSecond w) last = last.ahead ≡ last_point p l w

  ahead-same : (s : Side) (last next : LastPoints) → next.ahead ≡ last.ahead → IsAhead s last
      → IsAhead s next
  ahead-same Outside last next same ahead = tt
  ahead-same (InFirst w) last next same ahead = same ∙ ahead
  ahead-same (InSecond w) last next same ahead = same ∙ ahead

  ahead-second : (s : Side) (last : LastPoints) → IsAhead s last → IsAhead (second_of s) last
  ahead-second Outside last ahead = tt
  ahead-second (InFirst w) last ahead = ahead
  ahead-second (InSecond w) last ahead = ahead

  ahead-behind : (s : Side) (k next : ℕ) (x : Instruction) (last : LastPoints)
      → last.here ≡ last_point p l k → IsAhead s last
      → IsAhead (side_behind k s x) (last_after x next last)
  ahead-behind s k next (Wait e) last here ahead = ahead-same s last _ refl ahead
  ahead-behind s k next (When name wanted) last here ahead = here
  ahead-behind s k next Otherwise last here ahead =
      ahead-second s _ (ahead-same s last (record { here = last.ahead; ahead = last.ahead }) refl
      ahead)
  ahead-behind s k next EndWhen last here ahead = tt
  ahead-behind s k next _ last here ahead = ahead

  ahead-at : (k : ℕ) → IsAhead (side_at xs k) (lasts_at p l k)
  ahead-at zero = tt
  ahead-at (suc k) = by (slice_get xs k) (ahead-at k)
    where
      by : (o : Option Instruction) → IsAhead (side_at xs k) (lasts_at p l k)
          → IsAhead (side_behind_some k (side_at xs k) o)
          (last_after_some o (point_number p l k) (lasts_at p l k))
      by None ahead = ahead
      by (Some x) ahead =
          ahead-behind (side_at xs k) k (point_number p l k) x (lasts_at p l k) refl ahead

  -- ahead of an `else` or an `end`
  ahead-home : (s : Side) (k : ℕ) (last : LastPoints) → (s ≡ Outside → ⊥) → IsAhead s last
      → last.ahead ≡ last_point p l (home s k)
  ahead-home Outside k last inside ahead = absurd (inside refl)
  ahead-home (InFirst w) k last inside ahead = ahead
  ahead-home (InSecond w) k last inside ahead = ahead

  inside-of : (x : Instruction) (k : ℕ) → slice_get xs k ≡ Some x
      → ((may_stand Outside x ≡ true) → ⊥) → side_at xs k ≡ Outside → ⊥
  inside-of x k at not_there e =
      not_there (ap (λ s. may_stand s x) (sym e) ∙ branched.stands k x at)

  -- what is no point leaves the lane with the point of the place from which it goes on
  pub last-quiet : (i : ℕ) (x : Instruction) → instruction_at p l i ≡ Some x
      → one_point x ≡ 0 → last_point p l (suc i) ≡ last_point p l (row_before p l i x)
  last-quiet i x at none = ap (λ (s : LastPoints). s.here) (lasts-next p l i x at) ∙ by x at none
    where
      by : (y : Instruction) → instruction_at p l i ≡ Some y → one_point y ≡ 0
          → (last_after y (point_number p l i) (lasts_at p l i)).here
          ≡ last_point p l (row_before p l i y)
      by (Wait e) at none = absurd (omega (arith, none))
      by (When name wanted) at none = absurd (omega (arith, none))
      by Otherwise at none =
          ahead-home (side_at xs i) i (lasts_at p l i) (inside-of Otherwise i at false≢true)
          (ahead-at i)
      by EndWhen at none =
          ahead-home (side_at xs i) i (lasts_at p l i) (inside-of EndWhen i at false≢true)
          (ahead-at i)
      by _ at none = refl

  -- a lane publishes outside of all branches
  pub publish-home : (k r : ℕ) → instruction_at p l k ≡ Some (Publish r)
      → home (side_at xs k) k ≡ k
  publish-home k r at = by (side_at xs k) (branched.stands k (Publish r) at)
    where
      by : (s : Side) → may_stand s (Publish r) ≡ true → home s k ≡ k
      by Outside stands = refl
      by (InFirst w) stands = absurd (false≢true stands)
      by (InSecond w) stands = absurd (false≢true stands)
