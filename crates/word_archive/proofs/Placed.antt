-- Where a lane's record stands, when a view changes.
use Rattle.std.proofs.Common.{List, [], inl, inr, length, refl, set, subst, suc, sym, zero, ℕ, ap, ◌++◌, ◌∙◌, ◌∷◌, ◌≡◌, ◌≢◌}
use Rattle.std.proofs.lemmas.Bool.{cases_eq}
use mathlib.Core.Option.{some, some-injective, some-ne-none}
use lib.ListN.{get_elem?}
use Rattle.archive_laws.specs.Records.{Record}
use Rattle.word_archive.specs.Rule.{HasLane, IsAmong, StandsIn}
use Rattle.word_archive.specs.Views.{SeatView}

-- a view that was put in place of another
pub put_here : (vs : List SeatView) (i : ℕ) (v w : SeatView) → get_elem? vs i ≡ some v
    → get_elem? (set vs i w) i ≡ some w
put_here [] i v w e = absurd (some-ne-none v (sym e))
put_here (x ∷ xs) zero v w e = refl
put_here (x ∷ xs) (suc i) v w e = put_here xs i v w e

pub put_else : (vs : List SeatView) (i j : ℕ) (w : SeatView) → j ≢ i
    → get_elem? (set vs i w) j ≡ get_elem? vs j
put_else [] i j w n = refl
put_else (x ∷ xs) zero zero w n = absurd (n refl)
put_else (x ∷ xs) zero (suc j) w n = refl
put_else (x ∷ xs) (suc i) zero w n = refl
put_else (x ∷ xs) (suc i) (suc j) w n = put_else xs i j w (λ e. n (ap suc e))

-- the last of the views, and those before it
pub last_here : (vs : List SeatView) (w : SeatView)
    → get_elem? (vs ++ w ∷ []) (length vs) ≡ some w
last_here [] w = refl
last_here (x ∷ xs) w = last_here xs w

pub still_here : (vs ws : List SeatView) (i : ℕ) (v : SeatView) → get_elem? vs i ≡ some v
    → get_elem? (vs ++ ws) i ≡ some v
still_here [] ws i v e = absurd (some-ne-none v (sym e))
still_here (x ∷ xs) ws zero v e = e
still_here (x ∷ xs) ws (suc i) v e = still_here xs ws i v e

-- a list of two
pub among_first : (l : ℕ) (es fs : List (ℕ × Record)) → IsAmong l es → IsAmong l (es ++ fs)
among_first l [] fs h = absurd h
among_first l (e ∷ es) fs (inl is) = inl is
among_first l (e ∷ es) fs (inr h) = inr (among_first l es fs h)

pub among_second : (l : ℕ) (es fs : List (ℕ × Record)) → IsAmong l fs → IsAmong l (es ++ fs)
among_second l [] fs h = h
among_second l (e ∷ es) fs h = inr (among_second l es fs h)

-- a lane's record stands where it stood, if the view that changes still has it
pub stays_in : (vs : List SeatView) (id : ℕ) (v w : SeatView) (k l : ℕ)
    → get_elem? vs id ≡ some v → (k ≡ id → HasLane l v → HasLane l w) → StandsIn vs k l
    → StandsIn (set vs id w) k l
stays_in vs id v w k l at has h = elim (cases_eq k id) [
  | inl is ↦ let same = some-injective h.0 v (sym h.1 ∙ (ap (get_elem? vs) is ∙ at)) in (
    w,
    ap (get_elem? (set vs id w)) is ∙ put_here vs id v w at,
    has is (subst (HasLane l) same h.2),
  )
  | inr apart ↦ (h.0, put_else vs id k w apart ∙ h.1, h.2)
]
