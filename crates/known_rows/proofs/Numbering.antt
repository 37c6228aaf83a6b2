-- The numbers of points.
use Rattle.std.proofs.Common.{◌≡◌, inl, inr, ℕ, zero, suc, ◌+◌, ◌<◌, ◌≤◌, List, [], ◌∷◌, ◌++◌, length, take, Option, None, Some, refl, ap, ◌∙◌, arith}
use Rattle.std.proofs.lemmas.List.{append-nil, length-append}
use Rattle.std.proofs.lemmas.Grind.{flat_map-append}
use Rattle.std.proofs.lemmas.Bool.{cases_eq}
use Rattle.farm_model.specs.Common.{sum_below, Universe}
use Rattle.farm_laws.proofs.Archive.{take_some}
use Rattle.plan_model.specs.Plan.{Plan, lane, instruction_at, outputs_of, lane_outputs, outputs_before}
use Rattle.plan_model.specs.declared.instructions.Instruction.{Instruction}
use Rattle.plan_model.specs.declared.instructions.Instruction.TheVariants.{Wait, When, Otherwise, EndWhen}
use Rattle.verdict_laws.proofs.Made.{made}
use Rattle.known_rows.specs.declared.marks.LastPoints.{LastPoints}
use Rattle.known_rows.specs.Column.{IsPointBelow}
use Rattle.known_rows.specs.Points.{one_point, point_count, points_before, first_point, point_number, last_after, last_after_some, lasts_at, last_point}

point_count-append : (xs ys : List Instruction) → point_count (xs ++ ys) ≡ point_count xs +
    point_count ys
point_count-append [] ys = omega arith
point_count-append (x ∷ xs) ys = omega (arith, point_count-append xs ys)

point_count-take : (i : ℕ) (xs : List Instruction) → point_count (take i xs) ≤ point_count xs
point_count-take zero xs = omega arith
point_count-take (suc i) [] = omega arith
point_count-take (suc i) (x ∷ xs) = omega (arith, point_count-take i xs)

pub points-next : (p : Plan) (l i : ℕ) (x : Instruction) → instruction_at p l i ≡ Some x
    → points_before p l (suc i) ≡ points_before p l i + one_point x
points-next p l i x at =
    let e = ap point_count (take_some (lane p l).instructions i x at) in
    let f = point_count-append (take i (lane p l).instructions) (x ∷ []) in omega (arith, e, f)

-- one more instruction
pub lasts-next : (p : Plan) (l i : ℕ) (x : Instruction) → instruction_at p l i ≡ Some x
    → lasts_at p l (suc i) ≡ last_after x (point_number p l i) (lasts_at p l i)
lasts-next p l i x at =
    ap (λ o. last_after_some o (point_number p l i) (lasts_at p l i)) at

sum_below-le : (n l : ℕ) (f : ℕ → ℕ) → l < n → sum_below l f + f l ≤ sum_below n f
sum_below-le zero l f lt = absurd (omega (arith, lt))
sum_below-le (suc n) l f lt =
    elim (cases_eq l n) [
      | inl here ↦
          let a = ap (λ k. sum_below k f) here in
          let b = ap f here in omega (arith, a, b)
      | inr other ↦ omega (arith, sum_below-le n l f (omega (arith, lt, other)))
    ]

-- the points of a state are below a number
record AreIn (n : ℕ) (last : LastPoints) : Type 0 where
  pub here : IsPointBelow n last.here
  pub ahead : IsPointBelow n last.ahead

in-after : (x : Instruction) (next n : ℕ) (last : LastPoints) → next + one_point x ≤ n
    → AreIn n last → AreIn n (last_after x next last)
in-after (Wait e) next n last le are = record { here = omega (arith, le); ahead = are.ahead }
in-after (When name wanted) next n last le are =
    record { here = omega (arith, le); ahead = are.here }
in-after Otherwise next n last le are = record { here = are.ahead; ahead = are.ahead }
in-after EndWhen next n last le are = record { here = are.ahead; ahead = are.ahead }
in-after _ next n last le are = are

lasts-in : (p : Plan) (l n i : ℕ)
    → first_point p l + point_count (lane p l).instructions ≤ n → AreIn n (lasts_at p l i)
lasts-in p l n zero le = record { here = tt; ahead = tt }
lasts-in p l n (suc i) le = by (instruction_at p l i) refl (lasts-in p l n i le)
  where
    by : (o : Option Instruction) → instruction_at p l i ≡ o → AreIn n (lasts_at p l i)
        → AreIn n (last_after_some o (point_number p l i) (lasts_at p l i))
    by None e are = are
    by (Some x) e are =
        in-after x (point_number p l i) n (lasts_at p l i)
        (let next = points-next p l i x e in
        let few = point_count-take (suc i) (lane p l).instructions in omega (arith, next, few, le))
        are

-- the point of a place is one of the plan's
pub last-in : (p : Plan) (l i : ℕ) → l < length p
    → IsPointBelow (first_point p (length p)) (last_point p l i)
last-in p l i lt =
    (lasts-in p l (first_point p (length p)) i
    (sum_below-le (length p) l (λ h. point_count (lane p h).instructions) lt)).here

-- outputs before the next place
pub count-next : (u : Universe) (p : Plan) (l i : ℕ) (x : Instruction)
    → instruction_at p l i ≡ Some x
    → outputs_before u (lane p l) (suc i) 0 ≡ outputs_before u (lane p l) i
    (length (outputs_of u x))
count-next u p l i x at =
    let is = (lane p l).instructions in
    let next = ap (λ xs. length (made u xs)) (take_some is i x at)
    ∙ ap length (flat_map-append (outputs_of u) (take i is) (x ∷ []))
    ∙ length-append (made u (take i is)) (outputs_of u x ++ [])
    ∙ ap (λ n. length (made u (take i is)) + n) (ap length (append-nil (outputs_of u x))) in
    omega (arith, next)

pub count-start : (u : Universe) (p : Plan) (l : ℕ) → outputs_before u (lane p l) 0 0 ≡ 0
count-start u p l = refl

count-take : (u : Universe) (a b : ℕ) (xs : List Instruction) → a ≤ b
    → length (made u (take a xs)) ≤ length (made u (take b xs))
count-take u zero b xs le = omega arith
count-take u (suc a) zero xs le = absurd (omega (arith, le))
count-take u (suc a) (suc b) [] le = omega arith
count-take u (suc a) (suc b) (x ∷ xs) le =
    let rest = count-take u a b xs (omega (arith, le)) in
    let p = length-append (outputs_of u x) (made u (take a xs)) in
    let q = length-append (outputs_of u x) (made u (take b xs)) in omega (arith, rest, p, q)

pub count-mono : (u : Universe) (p : Plan) (l a b : ℕ) → a ≤ b
    → outputs_before u (lane p l) a 0 ≤ outputs_before u (lane p l) b 0
count-mono u p l a b le =
    let more = count-take u a b (lane p l).instructions le in omega (arith, more)

count-whole : (u : Universe) (a : ℕ) (xs : List Instruction)
    → length (made u (take a xs)) ≤ length (made u xs)
count-whole u zero xs = omega arith
count-whole u (suc a) [] = omega arith
count-whole u (suc a) (x ∷ xs) =
    let rest = count-whole u a xs in
    let p = length-append (outputs_of u x) (made u (take a xs)) in
    let q = length-append (outputs_of u x) (made u xs) in omega (arith, rest, p, q)

pub count-few : (u : Universe) (p : Plan) (l a : ℕ)
    → outputs_before u (lane p l) a 0 ≤ length (lane_outputs u (lane p l))
count-few u p l a =
    let few = count-whole u a (lane p l).instructions in omega (arith, few)
