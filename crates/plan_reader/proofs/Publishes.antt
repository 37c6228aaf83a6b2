-- Lanes that publish each recipe once: the place of a publish is known by its recipe.
use Rattle.std.proofs.Common.{◌≡◌, ℕ, zero, suc, ◌<◌, Bool, true, false, List, [], ◌∷◌, ◌++◌, length, refl, sym, ap, subst, ◌∙◌, Some, arith, true≢false}
use Rattle.std.specs.Prelude.{slice_get, ◌==◌}
use Rattle.std.proofs.Math.Bool.{or-true}
use Rattle.std.proofs.lemmas.Bool.{or_parts, eqb-true, eq-eqb}
use Rattle.std.proofs.lemmas.List.Concat.{flat_map-append}
use Rattle.std.proofs.lemmas.List.Folds.{list_any-append}
use Rattle.farm_model.specs.Chroot.{member}
use Rattle.plan_reader.specs.Drafts.{instructions_of, published}
use Rattle.plan_model.specs.Common.{published_by, Lane, Plan, lane, has_double}
use Rattle.plan_model.specs.declared.instructions.Instruction.{Instruction}
use Rattle.plan_model.specs.declared.instructions.Instruction.TheVariants.{Publish}
use Rattle.plan_reader.proofs.Doubles.{double-front}

-- no number stands in both of two parts
apart : (ms ns : List ℕ) (r : ℕ) → has_double (ms ++ ns) ≡ false → member ms r ≡ true
    → member ns r ≡ true → ⊥
apart [] ns r once there here = true≢false (sym there)
apart (m ∷ ms) ns r once there here =
    go (m == r) refl (λ later. apart ms ns r q.1 later here) where
      q : (member (ms ++ ns) m ≡ false) × (has_double (ms ++ ns) ≡ false)
      q = or_parts (member (ms ++ ns) m) (has_double (ms ++ ns)) once

      go : (b : Bool) → (m == r) ≡ b → (member ms r ≡ true → ⊥) → ⊥
      go true e later =
          let same : m ≡ r = eqb-true m r e in
          let P : ℕ → Type 0 = λ n. member ns n ≡ true in
          let none = or_parts (member ms m) (member ns m)
          (sym (list_any-append (λ y. y == m) ms ns) ∙ q.0) in
          true≢false (sym (subst P (sym same) here) ∙ none.1)
      go false e later = later (rw e at there)

back : (ms ns : List ℕ) → has_double (ms ++ ns) ≡ false → has_double ns ≡ false
back [] ns once = once
back (m ∷ ms) ns once =
    back ms ns (or_parts (member (ms ++ ns) m) (has_double (ms ++ ns)) once).1

member-front : (ms ns : List ℕ) (r : ℕ) → member ms r ≡ true → member (ms ++ ns) r ≡ true
member-front ms ns r there = list_any-append (λ y. y == r) ms ns ∙ rw there refl

member-back : (ms ns : List ℕ) (r : ℕ) → member ns r ≡ true → member (ms ++ ns) r ≡ true
member-back ms ns r there =
    list_any-append (λ y. y == r) ms ns ∙ rw there (or-true (member ms r))

-- ---- a lane

pub published-append : (xs ys : List Instruction)
    → published (xs ++ ys) ≡ published xs ++ published ys
published-append xs ys = flat_map-append published_by xs ys

publishes : (x : Instruction) (r : ℕ) → Some x ≡ Some (Publish r) → member (published_by x) r ≡ true
publishes x r is =
    let same : Publish r ≡ x = cc in
    let P : Instruction → Type 0 = λ y. member (published_by y) r ≡ true in
    subst P same (rw (eq-eqb r r refl) refl)

seen-at : (xs : List Instruction) (i r : ℕ) → slice_get xs i ≡ Some (Publish r)
    → member (published xs) r ≡ true
seen-at [] i r is = absurd cc
seen-at (x ∷ xs) zero r is = member-front (published_by x) (published xs) r (publishes x r is)
seen-at (x ∷ xs) (suc i) r is =
    member-back (published_by x) (published xs) r (seen-at xs i r is)

once-at : (xs : List Instruction) (i j r : ℕ) → has_double (published xs) ≡ false
    → slice_get xs i ≡ Some (Publish r) → slice_get xs j ≡ Some (Publish r) → i ≡ j
once-at [] i j r once at_i at_j = absurd cc
once-at (x ∷ xs) zero zero r once at_i at_j = refl
once-at (x ∷ xs) zero (suc j) r once at_i at_j =
    absurd (apart (published_by x) (published xs) r once (publishes x r at_i) (seen-at xs j r at_j))
once-at (x ∷ xs) (suc i) zero r once at_i at_j =
    absurd (apart (published_by x) (published xs) r once (publishes x r at_j) (seen-at xs i r at_i))
once-at (x ∷ xs) (suc i) (suc j) r once at_i at_j =
    ap suc (once-at xs i j r (back (published_by x) (published xs) once) at_i at_j)

-- ---- a plan

lanes-cut : (l : Lane) (ls : Plan)
    → published (instructions_of (l ∷ ls))
    ≡ published l.instructions ++ published (instructions_of ls)
lanes-cut l ls = flat_map-append published_by l.instructions (instructions_of ls)

seen-in : (p : Plan) (l i r : ℕ) → l < length p
    → slice_get (lane p l).instructions i ≡ Some (Publish r)
    → member (published (instructions_of p)) r ≡ true
seen-in [] l i r lt is = grind (arith, lt)
seen-in (x ∷ p) zero i r lt is =
    rw (lanes-cut x p)
    (member-front (published x.instructions) (published (instructions_of p)) r
    (seen-at x.instructions i r is))
seen-in (x ∷ p) (suc l) i r lt is =
    rw (lanes-cut x p)
    (member-back (published x.instructions) (published (instructions_of p)) r
    (seen-in p l i r (omega (arith, lt)) is))

pub once-in : (p : Plan) (l k i j r : ℕ) → has_double (published (instructions_of p)) ≡ false
    → l < length p → k < length p
    → slice_get (lane p l).instructions i ≡ Some (Publish r)
    → slice_get (lane p k).instructions j ≡ Some (Publish r) → (l ≡ k) × (i ≡ j)
once-in [] l k i j r once l_lt k_lt at_l at_k = grind (arith, l_lt)
once-in (x ∷ p) zero zero i j r once l_lt k_lt at_l at_k = (
  refl,
  once-at x.instructions i j r
      (double-front (published x.instructions) (published (instructions_of p))
      (ap has_double (sym (lanes-cut x p)) ∙ once)) at_l at_k,
)
once-in (x ∷ p) zero (suc k) i j r once l_lt k_lt at_l at_k =
    absurd (apart (published x.instructions) (published (instructions_of p)) r
    (ap has_double (sym (lanes-cut x p)) ∙ once)
    (seen-at x.instructions i r at_l) (seen-in p k j r (omega (arith, k_lt)) at_k))
once-in (x ∷ p) (suc l) zero i j r once l_lt k_lt at_l at_k =
    absurd (apart (published x.instructions) (published (instructions_of p)) r
    (ap has_double (sym (lanes-cut x p)) ∙ once)
    (seen-at x.instructions j r at_k) (seen-in p l i r (omega (arith, l_lt)) at_l))
once-in (x ∷ p) (suc l) (suc k) i j r once l_lt k_lt at_l at_k =
    let q = once-in p l k i j r
    (back (published x.instructions) (published (instructions_of p))
    (ap has_double (sym (lanes-cut x p)) ∙ once))
    (omega (arith, l_lt)) (omega (arith, k_lt)) at_l at_k in
    (ap suc q.0, q.1)
