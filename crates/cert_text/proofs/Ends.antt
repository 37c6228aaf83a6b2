-- Two texts that are the same at both ends, where the ends meet.
use Rattle.std.proofs.Common.{◌≡◌, ℕ, ◌+◌, ◌-◌, ◌≤◌, List, length, take, drop, take-append-drop, sym, ap, ◌∙◌, ◌++◌, arith}
use Rattle.std.proofs.lemmas.List.{take_all, drop-drop, length-drop}

-- what stands behind m elements, as a slice is cut
abbrev pub cut_behind : ℕ → List ℕ → List ℕ
cut_behind m xs = take (length xs - m) (drop m xs)

module _ (n m : ℕ) (xs ys : List ℕ) (long : m + n ≡ length xs) (long_too : m + n ≡ length ys)
    (meet : m ≤ n) (fronts : take n xs ≡ take n ys)
    (backs : take n (cut_behind m xs) ≡ take n (cut_behind m ys)) where
  back : (zs : List ℕ) → m + n ≡ length zs → take n (cut_behind m zs) ≡ drop m zs
  back zs is =
      ap (take n) (take_all (length zs - m) (drop m zs) (omega (arith, length-drop m zs)))
      ∙ take_all n (drop m zs) (omega (arith, length-drop m zs, is))

  behind : (zs : List ℕ) → drop (n - m) (drop m zs) ≡ drop n zs
  behind zs = drop-drop (n - m) m zs ∙ ap (λ k. drop k zs) (omega (arith, meet))

  pub same-by_ends : xs ≡ ys
  same-by_ends =
      sym (take-append-drop n xs)
      ∙ ap (λ front. front ++ drop n xs) fronts
      ∙ ap (λ rest. take n ys ++ rest)
      (sym (behind xs)
      ∙ ap (drop (n - m)) (sym (back xs long) ∙ backs ∙ back ys long_too)
      ∙ behind ys)
      ∙ take-append-drop n ys
