-- Walks over lanes that several threads made.
use Rattle.std.proofs.Common.{◌≡◌, ℕ, zero, suc, ◌+◌, List, [], ◌∷◌, length, Option, Some, None, slice_get, Result, refl, ap, subst, arith}
use Rattle.std.specs.List.{AllZip, range_with_len}
use Rattle.std.proofs.lemmas.Option.{slice_get_within}
use Rattle.plan_verifier.specs.SideBySide.{AreWalks}
use Rattle.plan_verifier.specs.declared.walk.WalkError.{WalkError}

-- what is told of a walk, where there is one
abbrev IsToldOf : (ℕ → Result ℕ WalkError → Type 0) → ℕ → Option (Result ℕ WalkError) → Type 0
IsToldOf Told l (Some w) = Told l w
IsToldOf Told l None = ⊥

-- the walks of the lanes from a on
walks_from : (Told : ℕ → Result ℕ WalkError → Type 0) (a n : ℕ) (ws : List (Result ℕ WalkError))
    → AllZip Told (range_with_len a n) ws
    → (length ws ≡ n)
    × ((l : ℕ) (w : Result ℕ WalkError) → slice_get ws l ≡ Some w → Told (a + l) w)
walks_from Told a zero [] all =
    (refl, λ l w is. let lt = slice_get_within [] l w is in absurd (omega (arith, lt)))
walks_from Told a zero (w ∷ ws) all = absurd all
walks_from Told a (suc n) [] all = absurd all
walks_from Told a (suc n) (w ∷ ws) all =
    let rest = walks_from Told (a + 1) n ws all.1 in (ap suc rest.0, at rest.1)
  where
    at : ((l : ℕ) (x : Result ℕ WalkError) → slice_get ws l ≡ Some x → Told (a + 1 + l) x)
        → (l : ℕ) (x : Result ℕ WalkError) → slice_get (w ∷ ws) l ≡ Some x → Told (a + l) x
    at rest zero x is =
        let e : a ≡ a + 0 = omega arith in subst (λ m. Told m x) e
        (subst (IsToldOf Told a) is all.0)
    at rest (suc l) x is =
        let e : a + 1 + l ≡ a + suc l = omega arith in subst (λ m. Told m x) e (rest l x is)

-- the walks of all lanes
pub are_walks : (Told : ℕ → Result ℕ WalkError → Type 0) (n : ℕ) (ws : List (Result ℕ WalkError))
    (places : List ℕ) → places ≡ range_with_len 0 n → AllZip Told places ws → AreWalks Told n ws
are_walks Told n ws places at all =
    let made = walks_from Told 0 n ws (subst (λ l. AllZip Told l ws) at all) in
    record {
      long = made.0;
      each = λ l w is. let e : 0 + l ≡ l = omega arith in subst (λ m. Told m w) e (made.1 l w is);
    }
