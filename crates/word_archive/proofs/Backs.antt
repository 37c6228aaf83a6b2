-- The records of the seats that are in.
use Rattle.std.proofs.Common.{List, None, Option, Some, [], ap, arith, length, map, refl, slice_get, suc, take, zero, ℕ, ◌++◌, ◌+◌, ◌∙◌, ◌∷◌, ◌≡◌}
use Rattle.archive_laws.specs.Records.{Record}
use Rattle.word_archive.specs.Seats.{LaneSeatOf, back, log_of}
use Rattle.word_archive.proofs.Closes.{numbered}

-- of two lists of seats, one behind the other
back_append : (n : ℕ) (xs ys : List (Option LaneSeatOf))
    → back n (xs ++ ys) ≡ back n xs ++ back (n + length xs) ys
back_append n [] ys = let z : n ≡ n + 0 = omega arith in ap (λ k. back k ys) z
back_append n (None ∷ xs) ys =
    let z : suc n + length xs ≡ n + suc (length xs) = omega arith in
    back_append (suc n) xs ys ∙ ap (λ k. back (suc n) xs ++ back k ys) z
back_append n (Some q ∷ xs) ys =
    let z : suc n + length xs ≡ n + suc (length xs) = omega arith in
    ap (λ l. (n, q.log) ∷ l) (back_append (suc n) xs ys
    ∙ ap (λ k. back (suc n) xs ++ back k ys) z)

-- the first seats and one more
take_one : (xs : List (Option LaneSeatOf)) (k : ℕ) (o : Option LaneSeatOf)
    → slice_get xs k ≡ Some o → (take (suc k) xs ≡ take k xs ++ o ∷ []) × (length (take k xs) ≡ k)
take_one [] k o e = absurd (cc)
take_one (x ∷ xs) zero o e = let s : x ≡ o = cc in ((λ i. s i ∷ []), refl)
take_one (x ∷ xs) (suc k) o e = let r = take_one xs k o e in (ap (λ l. x ∷ l) r.0, ap suc r.1)

-- the records of one seat more
pub back_take : (xs : List (Option LaneSeatOf)) (k : ℕ) (o : Option LaneSeatOf)
    → slice_get xs k ≡ Some o → back 0 (take (k + 1) xs) ≡ back 0 (take k xs) ++ back k (o ∷ [])
back_take xs k o e =
    let r = take_one xs k o e in
    let z : k + 1 ≡ suc k = omega arith in
    let y : 0 + length (take k xs) ≡ k = let l = r.1 in omega arith in
    ap (λ m. back 0 (take m xs)) z ∙ (ap (back 0) r.0
    ∙ (back_append 0 (take k xs) (o ∷ [])
    ∙ ap (λ m. back 0 (take k xs) ++ back m (o ∷ [])) y))

-- where all seats are in, the records are those of all lanes, in order
pub back_all : (n : ℕ) (xs : List (Option LaneSeatOf)) (rs : List Record)
    → map log_of xs ≡ map (λ r. Some r) rs → back n xs ≡ numbered n rs
back_all n [] [] e = refl
back_all n [] (r ∷ rs) e = absurd (cc)
back_all n (x ∷ xs) [] e = absurd (cc)
back_all n (None ∷ xs) (r ∷ rs) e = let z : None ≡ Some r = cc in absurd (cc)
back_all n (Some q ∷ xs) (r ∷ rs) e =
    let z : Some q.log ≡ Some r = cc in let s : q.log ≡ r = cc in
    let t : map log_of xs ≡ map (λ r. Some r) rs = cc in
    λ i. (n, s i) ∷ back_all (suc n) xs rs t i
