-- The places of rows, and lists that go side by side.
use Rattle.std.proofs.Common.{◌≡◌, ℕ, ◌+◌, ◌<◌, ◌≤◌, List, [], ◌∷◌, ◌++◌, filter, length, get_or, drop, cond, refl, sym, ap, ◌∙◌, append_assoc}
use Rattle.std.specs.Prelude.{count_by}
use Rattle.std.specs.List.{enumerate_from, flat_map, zip}
use Rattle.std.proofs.lemmas.List.{append-nil, length-map, at_drop_more, drop_all}
use Rattle.std.proofs.lemmas.List.Sums.{length-filter, sum_by-cons}
use Rattle.plan_model.specs.Plan.{Lane}
use Rattle.plan_model.specs.declared.instructions.Instruction.{Instruction}
use Rattle.cert_text.specs.Certificates.{learns, row_places, count_rows}

count-numbered : (n : ℕ) (xs : List Instruction)
    → count_by (λ (x : ℕ × Instruction). learns x.1) (enumerate_from n xs) ≡ count_by learns xs
count-numbered n [] = refl
count-numbered n (x ∷ xs) =
    sum_by-cons (λ (y : ℕ × Instruction). cond (learns y.1) 1 0) (n, x) (enumerate_from (n + 1) xs)
    ∙ ap (λ k. cond (learns x) 1 0 + k) (count-numbered (n + 1) xs)
    ∙ sym (sum_by-cons (λ (y : Instruction). cond (learns y) 1 0) x xs)

-- as many places as instructions that teach
pub length-places : (of : Lane) → length (row_places of) ≡ count_rows of
length-places of =
    length-map (filter (λ (x : ℕ × Instruction). learns x.1) (enumerate_from 1 of.instructions))
    (λ x. x.0)
    ∙ length-filter (λ (x : ℕ × Instruction). learns x.1) (enumerate_from 1 of.instructions)
    ∙ count-numbered 1 of.instructions

-- ---- two lists side by side

module _ {K X : Type 0} (ks : List K) (xs : List X) (i : ℕ) where
  pub zip-more : (k : K) (x : X) → i < length ks → i < length xs → k ≡ get_or ks i k
      → x ≡ get_or xs i x
      → zip (drop i ks) (drop i xs) ≡ (k, x) ∷ zip (drop (i + 1) ks) (drop (i + 1) xs)
  zip-more k x lk lx isk isx =
      let keys = at_drop_more (λ (ys : List K). ys) ks i k lk in
      let vals = at_drop_more (λ (ys : List X). ys) xs i x lx in
      rw (keys, vals, ← isk, ← isx) refl

  zip-none : (ys : List K) (zs : List X) → zs ≡ [] → zip ys zs ≡ []
  zip-none [] zs is = refl
  zip-none (y ∷ ys) zs is = rw is refl

  pub zip-ends : length xs ≤ i → zip (drop i ks) (drop i xs) ≡ []
  zip-ends le = zip-none (drop i ks) (drop i xs) (drop_all i xs le)

-- ---- what is written item by item

module _ {X : Type 0} (f : X → List ℕ) (text total : List ℕ) (all : List X)
    (so_far : text ++ flat_map f all ≡ total) where
  pub text-goes : (new : List ℕ) (x : X) (xs : List X) → all ≡ x ∷ xs → new ≡ text ++ f x
      → new ++ flat_map f xs ≡ total
  text-goes new x xs cut is =
      rw is (append_assoc text (f x) (flat_map f xs) ∙ (rw cut at so_far))

  pub text-ends : all ≡ [] → text ≡ total
  text-ends cut = sym (append-nil text) ∙ (rw cut at so_far)
