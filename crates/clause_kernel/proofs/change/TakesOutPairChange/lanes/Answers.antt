use Rattle.std.proofs.Common.{◌≡◌, ℕ, List, [], ◌∷◌, map, refl, ap}
use Rattle.std.specs.Simd.Lanes.{zip2}
use Rattle.clause_kernel.proofs.change.TakesOutPairChange.lanes.Goals as goal

zip2-map_right : (f : ℕ → ℕ → ℕ) (h : ℕ → ℕ) (xs ys : List ℕ)
    → zip2 f xs (map h ys) ≡ zip2 (λ x y. f x (h y)) xs ys
zip2-map_right f h [] ys = refl
zip2-map_right f h (x ∷ xs) [] = refl
zip2-map_right f h (x ∷ xs) (y ∷ ys) = ap (λ l. f x (h y) ∷ l) (zip2-map_right f h xs ys)

pub returns : goal.returns
returns c = zip2-map_right _ _ c.args.x c.args.y
