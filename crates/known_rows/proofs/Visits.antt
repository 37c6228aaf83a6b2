-- The visit of the points, one place at a time.
use Rattle.std.proofs.Common.{◌≡◌, ◌⊎◌, inl, inr, ℕ, suc, ◌+◌, ◌<◌, ◌≤◌, min, max, List, [], ◌∷◌, length, All, Option, Some, None, slice_get, slice_index, slice_set, refl, sym, ap, ◌∙◌, subst, arith, get_or-set_same, get_or-set_other}
use Rattle.std.specs.Prelude.{◌==◌, if◌then◌else◌}
use Rattle.std.specs.List.{Contains}
use Rattle.std.proofs.lemmas.Option.{slice_get_within, same_Some}
use Rattle.std.proofs.lemmas.Bool.{cases_eq}
use Rattle.known_rows.specs.declared.column.Source.{Source}
use Rattle.known_rows.specs.declared.column.Point.{Point}
use Rattle.known_rows.specs.declared.visit.Visit.{Visit}
use Rattle.known_rows.specs.Column.{Counts, of_list, count_at, known, least, bound, IsAbove, IsGreatestColumn}
use Rattle.known_rows.specs.Visit.{IsEarlier, BuildsOnEarlier, IsInTurn, IsVisit, AreSettled}

-- counts that agree on the points before place k
record AgreeBefore (places : List ℕ) (k : ℕ) (x y : Counts) : Type 0 where
  at : (w : ℕ) → slice_index places w < k → x w ≡ y w

count_at-same : (places : List ℕ) (k : ℕ) (x y : Counts) (o : Option ℕ) → IsEarlier places k o
    → AgreeBefore places k x y → count_at x o ≡ count_at y o
count_at-same places k x y None early same = refl
count_at-same places k x y (Some w) early same = same.at w early

known-same : (lane : ℕ) (places : List ℕ) (k : ℕ) (x y : Counts) (s : Source)
    → IsEarlier places k s.point → AgreeBefore places k x y → known lane x s ≡ known lane y s
known-same lane places k x y s early same =
    ap (λ n. if s.lane == lane then s.count else n)
    (count_at-same places k x y s.point early same)

least-same : (lane : ℕ) (places : List ℕ) (k : ℕ) (x y : Counts) (best : ℕ) (ss : List Source)
    → All (λ (s : Source). IsEarlier places k s.point) ss → AgreeBefore places k x y
    → least lane x best ss ≡ least lane y best ss
least-same lane places k x y best [] early same = refl
least-same lane places k x y best (s ∷ ss) early same =
    ap (λ n. least lane x (min best n) ss)
    (known-same lane places k x y s (early 0 s (omega arith)) same)
    ∙ least-same lane places k x y (min best (known lane y s)) ss
    (λ i d lt. early (suc i) d (omega arith)) same

-- a point may know the same where all that it builds on does
bound-same : (lane total : ℕ) (places : List ℕ) (k : ℕ) (x y : Counts) (p : Point)
    → BuildsOnEarlier places k p → AgreeBefore places k x y
    → bound lane total x p ≡ bound lane total y p
unfolding bound
bound-same lane total places k x y p ready same =
    ap (λ n. if p.lane == lane then p.own else max n (least lane x total p.sources.items))
    (count_at-same places k x y p.before ready.before same)
    ∙ ap (λ n. if p.lane == lane then p.own else max (count_at y p.before) n)
    (least-same lane places k x y total p.sources.items ready.sources same)

-- a new count at place k is that of no point before it
agree-set : (places xs : List ℕ) (w n k j : ℕ) → slice_index places w ≡ k → j ≤ k
    → AgreeBefore places j (of_list xs) (of_list (slice_set xs w n))
agree-set places xs w n k j here le =
    record {
      at = λ v lt. elim (cases_eq v w) [
        | inl same ↦
            let e : slice_index places v ≡ k = ap (λ i. slice_index places i) same ∙ here in
            absurd (omega (arith, lt, le, e))
        | inr other ↦ sym (get_or-set_other xs w v n 0 other)
      ];
    }

-- the point of place k was looked at
pub settled-look : (lane total : ℕ) (ps : List Point) (visit : Visit) (xs : List ℕ)
    (k w : ℕ) (p : Point) → length xs ≡ length ps → slice_get visit.order.items k ≡ Some w
    → slice_get ps w ≡ Some p → slice_index visit.places.items w ≡ k
    → AreSettled lane total ps visit xs k
    → AreSettled lane total ps visit (slice_set xs w (bound lane total (of_list xs) p)) (k + 1)
settled-look lane total ps visit xs k w p long order at here so_far v q is turn lt =
    elim (cases_eq v w) [
      | inl same ↦ looked_at same
      | inr other ↦ before other
    ]
  where
    places : List ℕ
    places = visit.places.items

    next : List ℕ
    next = slice_set xs w (bound lane total (of_list xs) p)

    within : w < length xs
    within = let l = slice_get_within ps w p at in omega (arith, l, long)

    looked_at : v ≡ w → slice_index next v ≤ bound lane total (of_list next) q
    looked_at same =
        let point : q ≡ p =
        same_Some q p (sym is ∙ ap (λ i. slice_get ps i) same ∙ at) in
        let value : slice_index next v ≡ bound lane total (of_list xs) q =
        ap (λ i. slice_index next i) same
        ∙ get_or-set_same xs w (bound lane total (of_list xs) p) 0 within
        ∙ ap (bound lane total (of_list xs)) (sym point) in
        let place : slice_index places v ≡ k = ap (λ i. slice_index places i) same ∙ here in
        let equal : bound lane total (of_list xs) q ≡ bound lane total (of_list next) q =
        bound-same lane total places (slice_index places v) (of_list xs) (of_list next) q
        turn.ready (agree-set places xs w _ k (slice_index places v) here (omega (arith, place))) in
        omega (arith, value, equal)

    before : (v ≡ w → ⊥) → slice_index next v ≤ bound lane total (of_list next) q
    before other =
        let place : (slice_index places v ≡ k → ⊥) =
        λ e. other (same_Some v w
        (sym turn.there ∙ ap (λ i. slice_get visit.order.items i) e ∙ order)) in
        let less : slice_index places v < k = omega (arith, lt, place) in
        let value : slice_index next v ≡ slice_index xs v =
        get_or-set_other xs w v (bound lane total (of_list xs) p) 0 other in
        let equal : bound lane total (of_list xs) q ≡ bound lane total (of_list next) q =
        bound-same lane total places (slice_index places v) (of_list xs) (of_list next) q
        turn.ready (agree-set places xs w _ k (slice_index places v) here (omega (arith, less))) in
        omega (arith, value, equal, so_far v q is turn less)

-- where those in turn and those that are late know no more than they may, these are the counts
pub settled_greatest : (lane total : ℕ) (ps : List Point) (visit : Visit) (xs : List ℕ)
    → IsVisit ps visit → length xs ≡ length ps → IsAbove lane total ps xs
    → AreSettled lane total ps visit xs (length visit.order.items)
    → All (λ w. (p : Point) → slice_get ps w ≡ Some p
    → slice_index xs w ≤ bound lane total (of_list xs) p) visit.late.items
    → IsGreatestColumn lane total ps xs
settled_greatest lane total ps visit xs is long above settled late =
    record { long = long; above = above; known = λ w p at. by w p at (is.each w p at) }
  where
    by : (w : ℕ) (p : Point) → slice_get ps w ≡ Some p
        → (Contains visit.late.items w
        ⊎ IsInTurn visit.order.items visit.places.items w p)
        → slice_index xs w ≤ bound lane total (of_list xs) p
    by w p at (inl h) =
        subst
        (λ v. (q : Point) → slice_get ps v ≡ Some q
        → slice_index xs v ≤ bound lane total (of_list xs) q)
        h.2 (late h.0 w h.1) p at
    by w p at (inr turn) =
        settled w p at turn
        (slice_get_within visit.order.items (slice_index visit.places.items w) w turn.there)
