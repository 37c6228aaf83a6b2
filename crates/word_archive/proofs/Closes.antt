-- The archive at its end, with the records that came back.
use Rattle.std.proofs.Common.{Bool, List, [], ap, arith, length, refl, slice_get, subst, suc, sym, take, zero, ℕ, ◌++◌, ◌+◌, ◌<◌, ◌∙◌, ◌∷◌, ◌≡◌}
use mathlib.Core.Option.{some, some-injective, some-ne-none}
use lib.ListN.{get_elem?}
use Rattle.atomic_table.specs.Table.{Final, Seen}
use Rattle.farm_model.specs.Packages.{same}
use Rattle.archive_laws.specs.Records.{Record}
use Rattle.plan_verifier.specs.Accepted.{AcceptedPlan}
use Rattle.word_archive.specs.Rule.{AreWordsOf, Entries, KeepsRule}
use Rattle.word_archive.specs.Views.{SeatView, base_view}

-- all records are back, in the lanes' order
abbrev pub numbered : ℕ → List Record → List (ℕ × Record)
numbered n [] = []
numbered n (r ∷ rs) = (n, r) ∷ numbered (suc n) rs

-- the records that stand in the view are those of the lanes
pub known : (owner : ℕ → ℕ) (all : List Record) (id n : ℕ) (rs : List Record)
    → Entries owner all id (numbered n rs) → (k : ℕ) → k < length rs
    → slice_get all (n + k) ≡ slice_get rs k
known owner all id n [] h k lt = absurd (omega arith)
known owner all id n (r ∷ rs) h zero lt =
    let e : n + 0 ≡ n = omega arith in ap (slice_get all) e ∙ h.0.1
known owner all id n (r ∷ rs) h (suc k) lt =
    let e : n + suc k ≡ suc n + k = omega arith in
    ap (slice_get all) e ∙ known owner all id (suc n) rs h.1 k (omega arith)

-- lists that are alike at each place are one
same_list : (xs ys : List Record) → length xs ≡ length ys
    → ((k : ℕ) → k < length ys → slice_get xs k ≡ slice_get ys k) → xs ≡ ys
same_list [] [] e h = refl
same_list [] (y ∷ ys) e h = absurd (omega arith)
same_list (x ∷ xs) [] e h = absurd (omega arith)
same_list (x ∷ xs) (y ∷ ys) e h =
    let z = h 0 (omega arith) in let q : x ≡ y = cc in
    let r = same_list xs ys (omega arith) (λ k lt. h (suc k) (omega arith)) in λ i. q i ∷ r i

-- at the end the words are those of the records that came back
pub closes : (S : Type 0) (p : AcceptedPlan) (id next : ℕ) (stopped : Bool)
    (records : List Record) (words : List ℕ) (slots : List S) → length records ≡ length p.plan
    → Final (Seen (KeepsRule {S = S} p) id (base_view p next stopped (numbered 0 records))) words
    slots → AreWordsOf p words records stopped
closes S p id next stopped records words slots long f =
    let s = f.0 in
    let h = f.1.0 in
    let fit = h.fits id (base_view p next stopped (numbered 0 records)) f.1.1 in
    let same : h.records ≡ records =
    same_list h.records records (h.stands.lanes ∙ sym long) (λ k lt. let e : 0 + k ≡ k =
    omega arith in
    ap (slice_get h.records) (sym e)
    ∙ known h.owner h.records id 0 records fit.entries k lt) in
    subst (λ (y : List ℕ × List Record × Bool). AreWordsOf p y.0 y.1 y.2)
    (λ i. (f.2 i, same i, sym (fit.spare refl).1 i)) h.stands

-- the same, where the base seat's view is known only by an equation
pub closes_as : (S : Type 0) (p q : AcceptedPlan) (id next : ℕ) (stopped : Bool)
    (records : List Record) (words : List ℕ) (slots : List S) (v : SeatView)
    → v ≡ base_view p next stopped (numbered 0 records) → q ≡ p → length records ≡ length q.plan
    → Final (Seen (KeepsRule {S = S} p) id v) words slots → AreWordsOf q words records stopped
closes_as S p q id next stopped records words slots v is same long f =
    subst (λ (x : AcceptedPlan). AreWordsOf x words records stopped) (sym same)
    (closes S p id next stopped records words slots (long
    ∙ ap (λ x. length x.plan) same) (subst
    (λ (u : SeatView). Final (Seen (KeepsRule {S = S} p) id u) words slots) is f))

-- the first words and one more
pub take_elem : (xs : List ℕ) (n x : ℕ) → get_elem? xs n ≡ some x
    → take (n + 1) xs ≡ take n xs ++ x ∷ []
take_elem [] n x e = absurd (some-ne-none x (sym e))
take_elem (y ∷ ys) zero x e = ap (λ z. z ∷ []) (some-injective y x e)
take_elem (y ∷ ys) (suc n) x e =
    let z : suc n + 1 ≡ suc (n + 1) = omega arith in
    ap (λ m. take m (y ∷ ys)) z ∙ ap (λ l. y ∷ l) (take_elem ys n x e)
