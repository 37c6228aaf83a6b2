-- What the columns of the points say.
use Rattle.std.proofs.Common.{◌≡◌, inl, inr, ℕ, zero, suc, ◌<◌, ◌≤◌, min, max, List, [], ◌∷◌, Some, None, slice_get, refl, ap, ◌∙◌, arith}
use Rattle.std.proofs.lemmas.Bool.{cases_eq, cases_lt, eq-eqb, ne_eqb}
use Rattle.std.proofs.lemmas.Option.{none-some, same_Some}
use Rattle.known_rows.specs.declared.column.Source.{Source}
use Rattle.known_rows.specs.declared.column.Point.{Point}
use Rattle.known_rows.specs.Column.{Counts, count_at, known, least, bound}

pub known-own : (j : ℕ) (x : Counts) (s : Source) → s.lane ≡ j → known j x s ≡ s.count
known-own j x s e = rw (eq-eqb s.lane j e) refl

pub known-other : (j : ℕ) (x : Counts) (s : Source) → (s.lane ≡ j → ⊥)
    → known j x s ≡ count_at x s.point
known-other j x s e = rw (ne_eqb s.lane j e) refl

-- nothing is known where the source says so
pub known-nothing : (j : ℕ) (x : Counts) (s : Source) → s.count ≡ 0 → s.point ≡ None
    → known j x s ≡ 0
known-nothing j x s count point =
    elim (cases_eq s.lane j) [
      | inl here ↦ known-own j x s here ∙ count
      | inr other ↦ known-other j x s other ∙ ap (count_at x) point
    ]

pub least-le : (j : ℕ) (x : Counts) (b : ℕ) (ss : List Source) → least j x b ss ≤ b
least-le j x b [] = omega arith
least-le j x b (s ∷ ss) = omega (arith, least-le j x (min b (known j x s)) ss)

pub least-known : (j : ℕ) (x : Counts) (b : ℕ) (ss : List Source) (k : ℕ) (s : Source)
    → slice_get ss k ≡ Some s → least j x b ss ≤ known j x s
least-known j x b [] k s e = absurd (none-some s e)
least-known j x b (t ∷ ss) zero s e =
    let is : known j x t ≡ known j x s = ap (known j x) (same_Some t s e) in
    omega (arith, least-le j x (min b (known j x t)) ss, is)
least-known j x b (t ∷ ss) (suc k) s e = least-known j x (min b (known j x t)) ss k s e

pub least-above : (j : ℕ) (x : Counts) (b n : ℕ) (ss : List Source) → n < b
    → ((k : ℕ) (s : Source) → slice_get ss k ≡ Some s → n < known j x s) → n < least j x b ss
least-above j x b n [] lt all = lt
least-above j x b n (s ∷ ss) lt all =
    let here : n < known j x s = all 0 s refl in
    least-above j x (min b (known j x s)) n ss (omega (arith, lt, here))
    (λ k t e. all (suc k) t e)

pub bound-own : (j total : ℕ) (x : Counts) (p : Point) → p.lane ≡ j → bound j total x p ≡ p.own
unfolding bound
bound-own j total x p e = rw (eq-eqb p.lane j e) refl

pub bound-other : (j total : ℕ) (x : Counts) (p : Point) → (p.lane ≡ j → ⊥)
    → bound j total x p ≡ max (count_at x p.before) (least j x total p.sources.items)
unfolding bound
bound-other j total x p e = rw (ne_eqb p.lane j e) refl

-- a number within which each smaller one lies
pub le-from : (a b : ℕ) → ((n : ℕ) → n < a → n < b) → a ≤ b
le-from a b h =
    elim (cases_lt b a) [
      | inl less ↦ let c = h b less in absurd (omega (arith, c))
      | inr le ↦ le
    ]
