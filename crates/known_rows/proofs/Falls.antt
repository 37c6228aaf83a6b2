-- Counts taken down, one point at a time.
use Rattle.std.proofs.Common.{◌≡◌, ℕ, suc, ◌<◌, ◌≤◌, min, max, Bool, true, false, inl, inr, List, [], ◌∷◌, length, get_or, Option, Some, None, slice_get, slice_index, slice_set, refl, sym, ap, ◌∙◌, subst, arith, get_or-set_same, get_or-set_other}
use Rattle.std.specs.Prelude.{◌==◌, if◌then◌else◌}
use Rattle.std.proofs.lemmas.Option.{slice_get_read, slice_get_within, slice_get-get_or, get_or_from_slice_get, same_Some}
use Rattle.std.proofs.lemmas.Bool.{cases_eq}
use Rattle.known_rows.specs.declared.column.Source.{Source}
use Rattle.known_rows.specs.declared.column.Point.{Point}
use Rattle.known_rows.specs.Column.{Counts, of_list, count_at, known, least, bound, IsPointBelow, ArePlaced, IsPlaced, ArePointsIn, AreKnownCounts, IsAbove, IsGreatestColumn}

count_at-mono : (n : ℕ) (y x : Counts) (o : Option ℕ) → IsPointBelow n o
    → ((w : ℕ) → w < n → y w ≤ x w)
    → count_at y o ≤ count_at x o
count_at-mono n y x None placed h = omega arith
count_at-mono n y x (Some w) placed h = h w placed

known-mono : (n lane : ℕ) (y x : Counts) (s : Source) → IsPointBelow n s.point
    → ((w : ℕ) → w < n → y w ≤ x w) → known lane y s ≤ known lane x s
known-mono n lane y x s placed h = by (s.lane == lane) (count_at-mono n y x s.point placed h)
  where
    by : (b : Bool) → count_at y s.point ≤ count_at x s.point
        → (if b then s.count else count_at y s.point) ≤ (if b then s.count else count_at x s.point)
    by true e = omega arith
    by false e = e

least-mono : (n lane : ℕ) (y x : Counts) (a b : ℕ) (ss : List Source) → ArePlaced n ss
    → ((w : ℕ) → w < n → y w ≤ x w) → a ≤ b → least lane y a ss ≤ least lane x b ss
least-mono n lane y x a b [] placed h e = e
least-mono n lane y x a b (s ∷ ss) placed h e =
    let k = known-mono n lane y x s (placed 0 s (omega arith)) h in
    least-mono n lane y x (min a (known lane y s)) (min b (known lane x s)) ss
    (λ i d lt. placed (suc i) d (omega arith)) h (omega arith)

pub bound-mono : (n lane total : ℕ) (y x : Counts) (p : Point) → IsPlaced n p
    → ((w : ℕ) → w < n → y w ≤ x w) → bound lane total y p ≤ bound lane total x p
unfolding bound
bound-mono n lane total y x p placed h = by (p.lane == lane)
    (count_at-mono n y x p.before placed.before h)
    (least-mono n lane y x total total p.sources.items placed.sources h (omega arith))
  where
    by : (b : Bool) → count_at y p.before ≤ count_at x p.before
        → least lane y total p.sources.items ≤ least lane x total p.sources.items
        → (if b then p.own else max (count_at y p.before) (least lane y total p.sources.items))
        ≤ (if b then p.own else max (count_at x p.before) (least lane x total p.sources.items))
    by true e f = omega arith
    by false e f = omega arith

pub above-set : (lane total : ℕ) (ps : List Point) (xs : List ℕ) (w : ℕ) (p : Point)
    → ArePointsIn (length xs) ps → length xs ≡ length ps → w < length ps → slice_get ps w ≡ Some p
    → IsAbove lane total ps xs → IsAbove lane total ps
    (slice_set xs w (bound lane total (of_list xs) p))
above-set lane total ps xs w p placed long lt at above y is k b =
    elim (cases_eq k w) [
      | inl same ↦ subst (λ i. y i ≤ slice_index (slice_set xs w (bound lane total (of_list xs) p))
          i) (sym same)
          (rw (get_or-set_same xs w (bound lane total (of_list xs) p) 0 (omega arith))
          (omega (arith, is.bounded w p at, more)))
      | inr other ↦ rw (get_or-set_other xs w k (bound lane total (of_list xs) p) 0 other)
          (above y is k b)
    ]
  where
    here : IsPlaced (length xs) p
    here = subst (IsPlaced (length xs)) (get_or_from_slice_get ps w p p at) (placed w p lt)

    more : bound lane total y p ≤ bound lane total (of_list xs) p
    more = bound-mono (length xs) lane total y (of_list xs) p here
        (λ i h. above y is i (omega (arith, long)))

-- the answer of one look at a point
pub tighten-above : (lane total : ℕ) (ps : List Point) (xs : List ℕ) (w limit : ℕ) (p : Point)
    → ArePointsIn (length xs) ps → length xs ≡ length ps → w < length ps → p ≡ get_or ps w p
    → limit ≡ bound lane total (of_list xs) p → IsAbove lane total ps xs
    → IsAbove lane total ps (slice_set xs w limit)
tighten-above lane total ps xs w limit p placed long lt at e above =
    subst (λ n. IsAbove lane total ps (slice_set xs w n)) (sym e)
    (above-set lane total ps xs w p placed long lt
    (slice_get_read ps (length ps) w p refl lt at) above)

pub tighten-stable : (lane total : ℕ) (ps : List Point) (xs : List ℕ) (w limit : ℕ) (p q : Point)
    → w < length ps → p ≡ get_or ps w p
    → limit ≡ bound lane total (of_list xs) p → slice_index xs w ≤ limit → slice_get ps w ≡ Some q
    → slice_index xs w ≤ bound lane total (of_list xs) q
tighten-stable lane total ps xs w limit p q lt at e le is =
    let same : p ≡ q = same_Some p q (sym (slice_get_read ps (length ps) w p refl lt at) ∙ is) in
    subst (λ r. slice_index xs w ≤ bound lane total (of_list xs) r) same
    (subst (λ n. slice_index xs w ≤ n) e le)

-- in the greatest counts each point knows all that it may
pub greatest-exact : (lane total : ℕ) (ps : List Point) (xs : List ℕ) → ArePointsIn (length ps) ps
    → ((w : ℕ) (p : Point) → slice_get ps w ≡ Some p → bound lane total (of_list xs) p ≤ total)
    → IsGreatestColumn lane total ps xs → (w : ℕ) (p : Point) → slice_get ps w ≡ Some p
    → slice_index xs w ≡ bound lane total (of_list xs) p
greatest-exact lane total ps xs placed few g w p at = let a = g.above next is w
    (slice_get_within ps w p at) in let b = g.known w p at in let c : next w
    ≡ bound lane total (of_list xs) p = next-at w p at in omega (arith, a, b, c)
  where
    next_of : Option Point → ℕ
    next_of None = 0
    next_of (Some p) = bound lane total (of_list xs) p

    next : Counts
    next w = next_of (slice_get ps w)

    next-at : (w : ℕ) (p : Point) → slice_get ps w ≡ Some p → next w
        ≡ bound lane total (of_list xs) p
    next-at w p at = ap next_of at

    is : AreKnownCounts lane total ps next
    is = record { few = λ w. low w (slice_get ps w) refl; bounded = λ w p at. up w p at }
      where
        low : (w : ℕ) (o : Option Point) → slice_get ps w ≡ o → next w ≤ total
        low w None e = let c : next w ≡ 0 = ap next_of e in omega (arith, c)
        low w (Some p) e = let c : next w ≡ bound lane total (of_list xs) p = ap next_of e in omega
            (arith, c, few w p e)

        up : (w : ℕ) (p : Point) → slice_get ps w ≡ Some p → next w ≤ bound lane total next p
        up w p e =
            let c : next w ≡ bound lane total (of_list xs) p = ap next_of e in
            let m = bound-mono (length ps) lane total (of_list xs) next p
            (subst (IsPlaced (length ps)) (get_or_from_slice_get ps w p p e)
            (placed w p (slice_get_within ps w p e)))
            (λ k b. above_it k b (slice_get-get_or ps k p b)) in
            omega (arith, c, m)
          where
            above_it : (k : ℕ) → k < length ps → slice_get ps k ≡ Some (get_or ps k p)
                → slice_index xs k ≤ next k
            above_it k b f = let c : next k ≡ bound lane total (of_list xs) (get_or ps k p) = ap
                next_of f in omega (arith, c, g.known k (get_or ps k p) f)
