-- The count of a plan, as a sum over its lanes.
use Rattle.std.proofs.Common.{◌≡◌, ℕ, zero, suc, ◌+◌, ◌-◌, List, [], ◌∷◌, length, ◌<◌, ◌≤◌, drop, get_or, length-append, refl, sym, ap, ◌∙◌, arith}
use Rattle.std.specs.List.{sum_by}
use Rattle.std.proofs.lemmas.List.{at_drop_more, drop_all, get_or_default}
use Rattle.std.proofs.lemmas.List.Sums.{sum_by-cons}
use Rattle.farm_model.specs.Common.{sum_below, Universe}
use Rattle.plan_reader.specs.Drafts.{instructions_of}
use Rattle.plan_reader.specs.Ends.{IsWithinLimits}
use Rattle.plan_model.specs.Plan.{Lane, Plan, lane, no_lane, Ways, ways_ahead, ways, count}
use Rattle.plan_model.specs.declared.instructions.Instruction.{Instruction}

-- a sum from its first number on
pub sum_below-first : (n : ℕ) (f : ℕ → ℕ) → sum_below (suc n) f ≡ f 0 + sum_below n (λ k. f (suc k))
sum_below-first zero f = refl
sum_below-first (suc n) f = let later = sum_below-first n f in omega (arith, later)

-- a sum over the lanes by number is one over their list
sum_below-lanes : (g : Lane → ℕ) (p : Plan)
    → sum_below (length p) (λ l. g (lane p l)) ≡ sum_by g p
sum_below-lanes g [] = refl
sum_below-lanes g (l ∷ ls) =
    sum_below-first (length ls) (λ k. g (lane (l ∷ ls) k))
    ∙ ap (λ n. g l + n) (sum_below-lanes g ls) ∙ sym (sum_by-cons g l ls)

-- the events of the plan, lane by lane
pub count-lanes : (u : Universe) (p : Plan)
    → count u p ≡ sum_by (λ (l : Lane). (ways u l.instructions).here) p
unfolding count
count-lanes u p = sum_below-lanes (λ (l : Lane). (ways u l.instructions).here) p

-- a lane has no more instructions than all lanes have
pub lane-short : (ls : List Lane) (i : ℕ) (l : Lane) → i < length ls → l ≡ get_or ls i l
    → length l.instructions ≤ length (instructions_of ls)
lane-short [] i l lt is = grind (arith, lt)
lane-short (x ∷ ls) zero l lt is =
    let long = length-append x.instructions (instructions_of ls) in
    rw is (omega (arith, long))
lane-short (x ∷ ls) (suc i) l lt is =
    let long = length-append x.instructions (instructions_of ls) in
    let rest = lane-short ls i l (omega (arith, lt)) is in
    omega (arith, long, rest)

-- a sum that takes one more
pub sum-goes : {X : Type 0} (f : X → ℕ) (xs : List X) (i : ℕ) (x : X) (n total : ℕ)
    → i < length xs → x ≡ get_or xs i x → n + sum_by f (drop i xs) ≡ total
    → n + f x + sum_by f (drop (i + 1) xs) ≡ total
sum-goes f xs i x n total lt is so_far =
    let step = at_drop_more (sum_by f) xs i x lt
    ∙ sum_by-cons f (get_or xs i x) (drop (i + 1) xs) in
    let same = ap f is in
    omega (arith, so_far, step, same)

pub sum-ends : {X : Type 0} (f : X → ℕ) (xs : List X) (i n total : ℕ) → length xs ≤ i
    → n + sum_by f (drop i xs) ≡ total → n ≡ total
sum-ends f xs i n total le so_far =
    let none = ap (sum_by f) (drop_all i xs le) in
    omega (arith, so_far, none)

-- the ways one place before
pub ways-goes : (u : Universe) (xs : List Instruction) (n : ℕ) (x : Instruction) (next w : Ways)
    → 0 < n → n ≤ length xs → x ≡ get_or xs (n - 1) x → w ≡ ways u (drop n xs)
    → next ≡ ways_ahead u x w → next ≡ ways u (drop (n - 1) xs)
ways-goes u xs n x next w some le is so_far goes =
    let lt : n - 1 < length xs = omega arith in
    let same : n - 1 + 1 ≡ n = omega arith in
    goes ∙ ap (ways_ahead u x) (so_far ∙ ap (λ k. ways u (drop k xs)) (sym same))
    ∙ ap (λ y. ways_ahead u y (ways u (drop (n - 1 + 1) xs))) is
    ∙ sym (at_drop_more (ways u) xs (n - 1) x lt)

-- a lane has no more instructions than its plan may have
pub lane-few : (p : Plan) (l : ℕ) → l < length p → IsWithinLimits p
    → length (lane p l).instructions ≤ 65536
lane-few p l lt limits =
    let short = lane-short p l (lane p l) lt (get_or_default p l no_lane (lane p l) lt) in
    omega (arith, short, limits.instructions)
