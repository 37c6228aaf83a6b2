-- What parts stand for, over a table of rows.
use Rattle.std.proofs.Common.{◌≡◌, ◌<◌, ◌≤◌, ℕ, ◌+◌, zero, suc, arith, List, [], ◌∷◌, ◌++◌, length, get_or, refl, sym, ap, ◌∙◌, append_assoc, length-append}
use Rattle.std.proofs.lemmas.List.{append-nil}
use Rattle.plan_reader.specs.declared.blocks.Row.{Row}
use Rattle.plan_reader.specs.declared.blocks.Part.{Part}
use Rattle.plan_reader.specs.declared.blocks.Part.TheVariants.{Step, Use}
use Rattle.plan_reader.specs.BlockTable.{one, from_top, bodies_from, bodies, AreParts, AreRows}

pub parts-front : (m n : ℕ) (xs ys : List Part) → AreParts m n (xs ++ ys)
    → AreParts m n xs × AreParts m n ys
parts-front m n [] ys are = (tt, are)
parts-front m n (p ∷ xs) ys are =
    let q = parts-front m n xs ys are.1 in ((are.0, q.0), q.1)

pub parts-both : (m n : ℕ) (xs ys : List Part) → AreParts m n xs → AreParts m n ys
    → AreParts m n (xs ++ ys)
parts-both m n [] ys a b = b
parts-both m n (p ∷ xs) ys a b = (a.0, parts-both m n xs ys a.1 b)

pub parts-more : (m n k l : ℕ) (ps : List Part) → m ≤ k → n ≤ l → AreParts m n ps → AreParts k l ps
parts-more m n k l [] steps rows are = tt
parts-more m n k l (Step i ∷ ps) steps rows are =
    (omega (arith, steps, are.0), parts-more m n k l ps steps rows are.1)
parts-more m n k l (Use b ∷ ps) steps rows are =
    (omega (arith, rows, are.0), parts-more m n k l ps steps rows are.1)

pub rows-more : (m k n : ℕ) (rs : List Row) → m ≤ k → AreRows m n rs → AreRows k n rs
rows-more m k n [] steps are = tt
rows-more m k n (r ∷ rs) steps are = (
  parts-more m n k n r.parts.items steps (omega arith) are.0,
  rows-more m k (n + 1) rs steps are.1,
)

pub rows-push : (m n : ℕ) (rs : List Row) (r : Row) → AreRows m n rs
    → AreParts m (n + length rs) r.parts.items → AreRows m n (rs ++ r ∷ [])
rows-push m n [] r are last = let e : n + 0 ≡ n = omega arith in (rw e at last, tt)
rows-push m n (s ∷ rs) r are last =
    let e : n + length (s ∷ rs) ≡ n + 1 + length rs = omega arith in
    (are.0, rows-push m (n + 1) rs r are.1 (rw e at last))

pub parts-at : (m n : ℕ) (rs : List Row) (d : Row) (b : ℕ) → b < length rs → AreRows m n rs
    → AreParts m (n + length rs) (get_or rs b d).parts.items
parts-at m n [] d b lt are = grind (arith, lt)
parts-at m n (r ∷ rs) d zero lt are =
    parts-more m n m (n + length (r ∷ rs)) r.parts.items (omega arith) (omega arith) are.0
parts-at m n (r ∷ rs) d (suc b) lt are =
    let e : n + 1 + length rs ≡ n + length (r ∷ rs) = omega arith in
    rw e at (parts-at m (n + 1) rs d b (omega (arith, lt)) are.1)

get-early : {X : Type 0} (xs ys : List (List X)) (i : ℕ) → i < length xs
    → get_or (xs ++ ys) i [] ≡ get_or xs i []
get-early [] ys i lt = grind (arith, lt)
get-early (x ∷ xs) ys zero lt = refl
get-early (x ∷ xs) ys (suc i) lt = get-early xs ys i (omega (arith, lt))

last-is : {X : Type 0} (done : List (List X)) (x : List X)
    → get_or (done ++ x ∷ []) (length done) [] ≡ x
last-is [] x = refl
last-is (y ∷ done) x = last-is done x

module _ {X : Type 0} (mark : List X) (step : ℕ → List X) where
  pub top-append : (bs : List (List X)) (xs ys : List Part)
      → from_top mark step bs (xs ++ ys) ≡ from_top mark step bs ys ++ from_top mark step bs xs
  top-append bs [] ys = sym (append-nil (from_top mark step bs ys))
  top-append bs (p ∷ xs) ys =
      ap (λ r. r ++ one mark step bs p) (top-append bs xs ys)
      ∙ append_assoc (from_top mark step bs ys) (from_top mark step bs xs) (one mark step bs p)

  early : (rs : List Row) (done : List (List X)) (i : ℕ) → i < length done
      → get_or (bodies_from mark step done rs) i [] ≡ get_or done i []
  early [] done i lt = refl
  early (r ∷ rs) done i lt =
      let x = from_top mark step done r.parts.items in
      early rs (done ++ x ∷ []) i (omega (arith, lt, length-append done (x ∷ [])))
      ∙ get-early done (x ∷ []) i lt

  -- parts see no more than the rows that they use
  pub same-top : (xs ys : List (List X)) (m n : ℕ)
      → ((i : ℕ) → i < n → get_or xs i [] ≡ get_or ys i []) → (ps : List Part) → AreParts m n ps
      → from_top mark step xs ps ≡ from_top mark step ys ps
  same-top xs ys m n same [] are = refl
  same-top xs ys m n same (Step i ∷ ps) are =
      ap (λ r. r ++ step i) (same-top xs ys m n same ps are.1)
  same-top xs ys m n same (Use b ∷ ps) are =
      rw (same-top xs ys m n same ps are.1, same b are.0) refl

  body-from : (m : ℕ) (d : Row) (rs : List Row) (done : List (List X)) (j : ℕ) → j < length rs
      → AreRows m (length done) rs
      → get_or (bodies_from mark step done rs) (length done + j) []
      ≡ from_top mark step (bodies_from mark step done rs) (get_or rs j d).parts.items
  body-from m d [] done j lt are = grind (arith, lt)
  body-from m d (r ∷ rs) done zero lt are =
      let x = from_top mark step done r.parts.items in
      let all = bodies_from mark step (done ++ x ∷ []) rs in
      let long = length-append done (x ∷ []) in
      ap (λ k. get_or all k []) (omega arith)
      ∙ early rs (done ++ x ∷ []) (length done) (omega (arith, long))
      ∙ last-is done x
      ∙ same-top done all m (length done) (λ i lt. sym (early (r ∷ rs) done i lt))
      r.parts.items are.0
  body-from m d (r ∷ rs) done (suc j) lt are =
      let x = from_top mark step done r.parts.items in
      let long : length (done ++ x ∷ []) ≡ length done + 1 = length-append done (x ∷ []) in
      let place : length (done ++ x ∷ []) + j ≡ length done + suc j = omega (arith, long) in
      ap (λ k. get_or (bodies_from mark step (done ++ x ∷ []) rs) k []) (sym place)
      ∙ body-from m d rs (done ++ x ∷ []) j (omega (arith, lt)) (rw (sym long) at are.1)

  -- a row stands for its parts
  pub body-at : (m : ℕ) (rs : List Row) (d : Row) (b : ℕ) → b < length rs → AreRows m 0 rs
      → get_or (bodies mark step rs) b []
      ≡ from_top mark step (bodies mark step rs) (get_or rs b d).parts.items
  unfolding bodies
  body-at m rs d b lt are =
      let e : 0 + b ≡ b = omega arith in rw e at (body-from m d rs [] b lt are)

  -- one more row leaves what there is
  from-push : (rs : List Row) (r : Row) (done : List (List X))
      → bodies_from mark step done (rs ++ r ∷ [])
      ≡ bodies_from mark step done rs
      ++ from_top mark step (bodies_from mark step done rs) r.parts.items ∷ []
  from-push [] r done = refl
  from-push (s ∷ rs) r done = from-push rs r (done ++ from_top mark step done s.parts.items ∷ [])

  from-long : (rs : List Row) (done : List (List X))
      → length (bodies_from mark step done rs) ≡ length done + length rs
  from-long [] done = omega arith
  from-long (r ∷ rs) done =
      let x = from_top mark step done r.parts.items in
      let later = from-long rs (done ++ x ∷ []) in
      let long = length-append done (x ∷ []) in
      omega (arith, later, long)

  pub top-row : (m : ℕ) (rs : List Row) (r : Row) (ps : List Part) → AreParts m (length rs) ps
      → from_top mark step (bodies mark step (rs ++ r ∷ [])) ps
      ≡ from_top mark step (bodies mark step rs) ps
  unfolding bodies
  top-row m rs r ps are =
      let old = bodies_from mark step [] rs in
      let x = from_top mark step old r.parts.items in
      let long = from-long rs [] in
      rw (from-push rs r [])
      (same-top (old ++ x ∷ []) old m (length rs)
      (λ i lt. get-early old (x ∷ []) i (omega (arith, lt, long))) ps are)

  pub last-row : (rs : List Row) (r : Row)
      → get_or (bodies mark step (rs ++ r ∷ [])) (length rs) []
      ≡ from_top mark step (bodies mark step rs) r.parts.items
  unfolding bodies
  last-row rs r =
      let old = bodies_from mark step [] rs in
      let x = from_top mark step old r.parts.items in
      let long : length old ≡ length rs = omega (arith, from-long rs []) in
      rw (from-push rs r [], sym long) (last-is old x)

-- more steps leave what there is
module _ {X : Type 0} (mark : List X) (f g : ℕ → List X) (m : ℕ)
    (same : (i : ℕ) → i < m → f i ≡ g i) where
  step-top : (bs : List (List X)) (n : ℕ) (ps : List Part) → AreParts m n ps
      → from_top mark f bs ps ≡ from_top mark g bs ps
  step-top bs n [] are = refl
  step-top bs n (Step i ∷ ps) are = rw (step-top bs n ps are.1, same i are.0) refl
  step-top bs n (Use b ∷ ps) are = rw (step-top bs n ps are.1) refl

  step-from : (n : ℕ) (rs : List Row) (done : List (List X)) → AreRows m n rs
      → bodies_from mark f done rs ≡ bodies_from mark g done rs
  step-from n [] done are = refl
  step-from n (r ∷ rs) done are =
      rw (step-top done n r.parts.items are.0)
      (step-from (n + 1) rs (done ++ from_top mark g done r.parts.items ∷ []) are.1)

  pub step-same : (n : ℕ) (rs : List Row) (ps : List Part) → AreRows m 0 rs → AreParts m n ps
      → from_top mark f (bodies mark f rs) ps ≡ from_top mark g (bodies mark g rs) ps
  unfolding bodies
  step-same n rs ps rows are =
      rw (step-from 0 rs [] rows) (step-top (bodies_from mark g [] rs) n ps are)
