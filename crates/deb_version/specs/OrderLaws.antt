-- Versions are in a total order; `impl Ord` cites these laws.
use Rattle.std.proofs.Common.{◌≡◌, ℕ, List, [], ◌∷◌, ◌++◌, map, refl, sym, ◌∙◌, Ordering, ◌⊎◌, inl, inr}
use Rattle.std.specs.declared.cmp.Ordering.TheVariants.{Less, Equal, Greater}
use Rattle.std.specs.Ordering.{ordering_then, ordering_reverse, eq_by_cmp}
use Rattle.std.specs.Cmp.{IsTotalOrder, IsEquivalence}
use Rattle.std.proofs.lemmas.Cmp.{nat_cmp_total, on_total, then_total, lists_total, tied_itself, alike_right, eq_by_cmp_equiv}
use Rattle.deb_text.specs.Numbers.{number}
use Rattle.deb_version.specs.Grammar.{parts_at, text_cmp}
use Rattle.deb_version.specs.Padded.{padded_cmp}
use Rattle.deb_version.specs.Order.{Parts, Run, end_rank, rank_of, word_cmp, run_cmp, empty_run, runs_of, part_cmp, revision_of, version_cmp}

reverse_then : (o p : Ordering)
    → ordering_reverse (ordering_then o p) ≡ ordering_then (ordering_reverse o) (ordering_reverse p)
reverse_then Less p = refl
reverse_then Equal p = refl
reverse_then Greater p = refl

-- the two ways in which the first of two answers settles a Less
less_cases : (o p : Ordering) → ordering_then o p ≡ Less → (o ≡ Less) ⊎ ((o ≡ Equal) × (p ≡ Less))
less_cases Less p e = inl refl
less_cases Equal p e = inr (refl, e)
less_cases Greater p e = absurd cc

pub equal_parts : (o p : Ordering) → ordering_then o p ≡ Equal → (o ≡ Equal) × (p ≡ Equal)
equal_parts Less p e = absurd cc
equal_parts Equal p e = (refl, e)
equal_parts Greater p e = absurd cc

module _ {K : Type 0} (end : K) (cmp : K → K → Ordering) (order : IsTotalOrder cmp) where
  first_antisymm : (x y : K) (p q : Ordering) → p ≡ ordering_reverse q
      → ordering_then (cmp x y) p ≡ ordering_reverse (ordering_then (cmp y x) q)
  first_antisymm x y p q e = rw (order.antisymm x y, e) (sym (reverse_then (cmp y x) q))

  padded_antisymm : (xs ys : List K)
      → padded_cmp end cmp xs ys ≡ ordering_reverse (padded_cmp end cmp ys xs)
  padded_antisymm [] [] = refl
  padded_antisymm [] (y ∷ ys) = first_antisymm end y _ _ (padded_antisymm [] ys)
  padded_antisymm (x ∷ xs) [] = first_antisymm x end _ _ (padded_antisymm xs [])
  padded_antisymm (x ∷ xs) (y ∷ ys) = first_antisymm x y _ _ (padded_antisymm xs ys)

  -- one place: the first elements, and what comes behind them
  first_trans : (x y z : K) (p q r : Ordering) → (p ≡ Less → q ≡ Less → r ≡ Less)
      → ordering_then (cmp x y) p ≡ Less → ordering_then (cmp y z) q ≡ Less
      → ordering_then (cmp x z) r ≡ Less
  first_trans x y z p q r rest a b =
      elim (less_cases (cmp x y) p a) [
        | inl xy ↦ elim (less_cases (cmp y z) q b) [
          | inl yz ↦ rw (order.trans x y z xy yz) refl
          | inr yz ↦ rw (sym (alike_right order y z x yz.0) ∙ xy) refl
        ]
        | inr xy ↦ elim (less_cases (cmp y z) q b) [
          | inl yz ↦ rw (order.congr x y z xy.0 ∙ yz) refl
          | inr yz ↦ rw (order.congr x y z xy.0 ∙ yz.0) (rest xy.1 yz.1)
        ]
      ]

  padded_trans : (xs ys zs : List K)
      → padded_cmp end cmp xs ys ≡ Less → padded_cmp end cmp ys zs ≡ Less
      → padded_cmp end cmp xs zs ≡ Less
  padded_trans [] [] zs a b = absurd cc
  padded_trans [] (y ∷ ys) [] a b =
      rw (tied_itself order end) at (first_trans end y end _ _ Equal (padded_trans [] ys []) a b)
  padded_trans [] (y ∷ ys) (z ∷ zs) a b = first_trans end y z _ _ _ (padded_trans [] ys zs) a b
  padded_trans (x ∷ xs) [] [] a b = absurd cc
  padded_trans (x ∷ xs) [] (z ∷ zs) a b = first_trans x end z _ _ _ (padded_trans xs [] zs) a b
  padded_trans (x ∷ xs) (y ∷ ys) [] a b = first_trans x y end _ _ _ (padded_trans xs ys []) a b
  padded_trans (x ∷ xs) (y ∷ ys) (z ∷ zs) a b = first_trans x y z _ _ _ (padded_trans xs ys zs) a b

  first_congr : (x y z : K) (p q r : Ordering) → (p ≡ Equal → q ≡ r)
      → ordering_then (cmp x y) p ≡ Equal
      → ordering_then (cmp x z) q ≡ ordering_then (cmp y z) r
  first_congr x y z p q r rest a =
      let parts = equal_parts (cmp x y) p a in
      rw (order.congr x y z parts.0, rest parts.1) refl

  padded_congr : (xs ys zs : List K) → padded_cmp end cmp xs ys ≡ Equal
      → padded_cmp end cmp xs zs ≡ padded_cmp end cmp ys zs
  padded_congr [] [] zs a = refl
  padded_congr [] (y ∷ ys) [] a =
      rw (tied_itself order end) at (first_congr end y end _ Equal _ (padded_congr [] ys []) a)
  padded_congr [] (y ∷ ys) (z ∷ zs) a = first_congr end y z _ _ _ (padded_congr [] ys zs) a
  padded_congr (x ∷ xs) [] [] a = a
  padded_congr (x ∷ xs) [] (z ∷ zs) a = first_congr x end z _ _ _ (padded_congr xs [] zs) a
  padded_congr (x ∷ xs) (y ∷ ys) [] a = first_congr x y end _ _ _ (padded_congr xs ys []) a
  padded_congr (x ∷ xs) (y ∷ ys) (z ∷ zs) a = first_congr x y z _ _ _ (padded_congr xs ys zs) a

  pub padded_total : IsTotalOrder (padded_cmp end cmp)
  padded_total = record { antisymm = padded_antisymm; trans = padded_trans; congr = padded_congr }

pub word_cmp_total : IsTotalOrder word_cmp
word_cmp_total =
    on_total (λ (word : List ℕ). map rank_of word ++ end_rank ∷ []) (lists_total nat_cmp_total)

pub run_cmp_total : IsTotalOrder run_cmp
run_cmp_total =
    then_total (on_total (λ (run : Run). run.word) word_cmp_total)
    (on_total (λ (run : Run). number run.digits) nat_cmp_total)

pub part_cmp_total : IsTotalOrder part_cmp
unfolding part_cmp
part_cmp_total = on_total runs_of (padded_total empty_run run_cmp run_cmp_total)

pub version_cmp_total : IsTotalOrder version_cmp
unfolding version_cmp
version_cmp_total =
    then_total (on_total (λ (parts : Parts). parts.epoch) nat_cmp_total)
    (then_total (on_total (λ (parts : Parts). parts.upstream) part_cmp_total)
    (on_total revision_of part_cmp_total))

pub text_cmp_total : IsTotalOrder text_cmp
text_cmp_total = on_total parts_at version_cmp_total

pub text_eq_equiv : IsEquivalence (eq_by_cmp text_cmp)
text_eq_equiv = eq_by_cmp_equiv text_cmp_total
