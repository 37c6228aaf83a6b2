-- One turn of opening parts: the last part on the stack comes first.
use Rattle.std.proofs.Common.{◌≡◌, ◌<◌, ℕ, ◌+◌, zero, suc, arith, List, [], ◌∷◌, ◌++◌, length, get_or, refl, sym, ap, ◌∙◌}
use Rattle.plan_reader.specs.declared.blocks.Part.{Part}
use Rattle.plan_reader.specs.declared.blocks.Part.TheVariants.{Step, Use}
use Rattle.plan_reader.specs.declared.blocks.Row.{Row}
use Rattle.plan_reader.specs.BlockTable.{from_top, bodies, step_at, one_turn, part_steps, turns, IsPart, AreParts, AreRows}
use Rattle.plan_reader.proofs.BlockLaws.{parts-front, parts-both, parts-at, top-append, body-at}

at-one : {X : Type 0} (xs : List X) (i : ℕ) (x : X) → i < length xs → x ≡ get_or xs i x
    → step_at xs i ≡ x ∷ []
at-one [] i x lt is = grind (arith, lt)
at-one (y ∷ xs) zero x lt is = rw is refl
at-one (y ∷ xs) (suc i) x lt is = at-one xs i x (omega (arith, lt)) is

module _ (rs : List Row) (rest : List Part) where
  pub step-left : {X : Type 0} (xs : List X) (i : ℕ) (x : X) → i < length xs
      → x ≡ get_or xs i x → part_steps xs rs (rest ++ Step i ∷ [])
      ≡ x ∷ part_steps xs rs rest
  step-left xs i x lt is =
      top-append [] (step_at xs) (bodies [] (step_at xs) rs) rest (Step i ∷ [])
      ∙ ap (λ ys. ys ++ part_steps xs rs rest) (at-one xs i x lt is)

  pub use-left : {X : Type 0} (xs : List X) (m : ℕ) (d : Row) (b : ℕ) → AreRows m 0 rs
      → b < length rs
      → part_steps xs rs (rest ++ Use b ∷ [])
      ≡ part_steps xs rs (rest ++ (get_or rs b d).parts.items)
  use-left xs m d b are lt =
      let all = bodies [] (step_at xs) rs in
      top-append [] (step_at xs) all rest (Use b ∷ [])
      ∙ ap (λ ys. ys ++ part_steps xs rs rest) (body-at [] (step_at xs) m rs d b lt are)
      ∙ sym (top-append [] (step_at xs) all rest (get_or rs b d).parts.items)

  pub step-turns : (i : ℕ) → turns rs rest < turns rs (rest ++ Step i ∷ [])
  step-turns i =
      let e : turns rs (rest ++ Step i ∷ []) ≡ suc (turns rs rest) =
      ap length (top-append one_turn (λ _. one_turn) (bodies one_turn (λ _. one_turn) rs) rest
      (Step i ∷ [])) in
      omega (arith, e)

  pub use-turns : (m : ℕ) (d : Row) (b : ℕ) → AreRows m 0 rs → b < length rs
      → turns rs (rest ++ (get_or rs b d).parts.items) < turns rs (rest ++ Use b ∷ [])
  use-turns m d b are lt =
      let f : ℕ → List ℕ = λ _. one_turn in
      let all = bodies one_turn f rs in
      let found = get_or rs b d in
      let e : turns rs (rest ++ Use b ∷ []) ≡ suc (turns rs (rest ++ found.parts.items)) =
      ap length (top-append one_turn f all rest (Use b ∷ [])
      ∙ ap (λ ys. (one_turn ++ ys) ++ from_top one_turn f all rest)
      (body-at one_turn f m rs d b lt are)
      ∙ ap (λ ys. 0 ∷ ys) (sym (top-append one_turn f all rest found.parts.items))) in
      omega (arith, e)

  pub top-known : (m n : ℕ) (p : Part) → AreParts m n (rest ++ p ∷ []) → IsPart m n p
  top-known m n p are = (parts-front m n rest (p ∷ []) are).1.0

  pub rest-known : (m n : ℕ) (p : Part) → AreParts m n (rest ++ p ∷ []) → AreParts m n rest
  rest-known m n p are = (parts-front m n rest (p ∷ []) are).0

  pub use-known : (m : ℕ) (d : Row) (b : ℕ) → AreRows m 0 rs → b < length rs
      → AreParts m (length rs) rest → AreParts m (length rs) (rest ++ (get_or rs b d).parts.items)
  use-known m d b are lt known =
      let e : 0 + length rs ≡ length rs = omega arith in
      parts-both m (length rs) rest (get_or rs b d).parts.items known
      (rw e at (parts-at m 0 rs d b lt are))
