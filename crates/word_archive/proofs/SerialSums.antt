-- How often a serial stands in a list of publications.
use Rattle.std.proofs.Common.{List, Some, [], ap, arith, cond, if◌then◌else◌, length, refl, slice_get, suc, sum_by, take, zero, ℕ, ◌+◌, ◌<◌, ◌==◌, ◌∷◌, ◌≡◌, ◌≤◌}
use Rattle.std.proofs.lemmas.Bool.{eq-eqb}
use Rattle.std.proofs.lemmas.Bool.Decides.{nat_tests}
use Rattle.std.proofs.lemmas.List.Sums.{sum_by-cons, sum_by_push}
use Rattle.std.specs.Prelude.{slice_index, slice_index_or}
use Rattle.farm_model.specs.Packages.{variant}
use Rattle.farm_model.specs.declared.types.Variant.{Variant}
use Rattle.farm_archive.specs.declared.publication.Publication.{Publication}
use Rattle.archive_laws.specs.Records.{Record}
use Rattle.word_archive.specs.History.{entry, first_published}
use Rattle.word_archive.specs.Serials.{drawn, once_below, times}

-- output i of a lane
abbrev pub output_at : ℕ → List Variant → List ℕ → ℕ → Publication
output_at l outs serials i = entry (slice_index serials i) l (slice_index_or outs i (variant 0 0))

-- whether the publication has this serial
abbrev pub one_if : ℕ → ℕ → ℕ
one_if x y = if y == x then 1 else 0

-- how often x is the publication's serial
abbrev pub is_under : ℕ → Publication → ℕ
is_under x h = one_if x h.serial

-- how often x stands among the first ones and one more
times_take : (x : ℕ) (xs : List ℕ) (m : ℕ) → m < length xs
    → times x (take (suc m) xs) ≡ times x (take m xs) + (if slice_index xs m == x then 1 else 0)
times_take x [] m lt = absurd (omega arith)
times_take x (y ∷ ys) zero lt = omega arith
times_take x (y ∷ ys) (suc m) lt = let h = times_take x ys m (omega arith) in omega arith

-- among the first ones it stands at most as often
pub times_front : (x : ℕ) (xs : List ℕ) (m : ℕ) → times x (take m xs) ≤ times x xs
times_front x [] zero = omega arith
times_front x [] (suc m) = omega arith
times_front x (y ∷ ys) zero = omega arith
times_front x (y ∷ ys) (suc m) = let h = times_front x ys m in omega arith

-- how often x is the serial of a lane's first outputs
pub by_sum : (x l : ℕ) (outs : List Variant) (serials : List ℕ) (m : ℕ) → m ≤ length serials
    → sum_by (is_under x) (first_published l outs serials m) ≡ times x (take m serials)
by_sum x l outs serials zero le = refl
by_sum x l outs serials (suc m) le =
    let h = by_sum x l outs serials m (omega arith) in
    let s = sum_by_push (is_under x) (first_published l outs serials m)
    (output_at l outs serials m) in
    let t = times_take x serials m (omega arith) in
    omega arith

-- how often the first lanes drew x, and one more lane
pub drawn_take : (x : ℕ) (rs : List Record) (n : ℕ) (r : Record) → slice_get rs n ≡ Some r
    → drawn x (take (suc n) rs) ≡ drawn x (take n rs) + times x r.serials
drawn_take x [] n r e = absurd (cc)
drawn_take x (q ∷ qs) zero r e =
    let s : q ≡ r = cc in
    let t = ap (λ (y : Record). times x y.serials) s in
    omega arith
drawn_take x (q ∷ qs) (suc n) r e = let h = drawn_take x qs n r e in omega arith

-- the first lanes drew it at most as often as all
pub drawn_front : (x : ℕ) (rs : List Record) (n : ℕ) → drawn x (take n rs) ≤ drawn x rs
drawn_front x [] zero = omega arith
drawn_front x [] (suc n) = omega arith
drawn_front x (q ∷ qs) zero = omega arith
drawn_front x (q ∷ qs) (suc n) = let h = drawn_front x qs n in omega arith

-- one element counts in a sum
one_in : (f : Publication → ℕ) (xs : List Publication) (k : ℕ) (h : Publication)
    → slice_get xs k ≡ Some h → f h ≤ sum_by f xs
one_in f [] k h e = absurd (cc)
one_in f (x ∷ xs) zero h e =
    let s : x ≡ h = cc in
    let t = ap f s in
    let c = sum_by-cons f x xs in
    omega arith
one_in f (x ∷ xs) (suc k) h e =
    let r = one_in f xs k h e in
    let c = sum_by-cons f x xs in
    omega arith

-- and two at different places both do
pub two_in : (f : Publication → ℕ) (xs : List Publication) (j k : ℕ) (g h : Publication) → j < k
    → slice_get xs j ≡ Some g → slice_get xs k ≡ Some h → f g + f h ≤ sum_by f xs
two_in f [] j k g h lt e d = absurd (cc)
two_in f (x ∷ xs) j zero g h lt e d = absurd (omega arith)
two_in f (x ∷ xs) zero (suc k) g h lt e d =
    let s : x ≡ g = cc in
    let t = ap f s in
    let c = sum_by-cons f x xs in
    let r = one_in f xs k h d in
    omega arith
two_in f (x ∷ xs) (suc j) (suc k) g h lt e d =
    let c = sum_by-cons f x xs in
    let r = two_in f xs j k g h (omega arith) e d in
    omega arith

-- x is x once
pub same_under : (x : ℕ) → one_if x x ≡ 1
same_under x = ap (λ b. cond b 1 0) (eq-eqb x x refl)

-- no number counts twice below n
pub at_most_one : (x n : ℕ) → once_below x n ≤ 1
at_most_one x n = grind (arith, nat_tests)
