-- Laws of the first trap.
use Rattle.std.proofs.Common.{◌≡◌, ℕ, ◌≤◌, Bool, true, false, List, [], ◌∷◌, Some, None, refl, sym}
use Rattle.std.specs.Prelude.{nat_lt}
use Rattle.std.proofs.lemmas.Bool.{ltb-false}
use Rattle.std.proofs.lemmas.Option.{none-some}
use Rattle.farm_model.specs.declared.types.Trap.{Trap}
use Rattle.farm_model.specs.Traps.{first_trap}

first-fails : (b : Bool) (t : Trap) (xs : List (Bool × Trap))
    → first_trap ((b, t) ∷ xs) ≡ None → b ≡ false
unfolding first_trap
first-fails true t xs e = absurd (none-some t (sym e))
first-fails false t xs e = refl

pub trap-first : (b : Bool) (t : Trap) (xs : List (Bool × Trap)) → b ≡ true
    → Some t ≡ first_trap ((b, t) ∷ xs)
unfolding first_trap
trap-first b t xs is = rw is refl

pub trap-later : (b : Bool) (t : Trap) (xs : List (Bool × Trap)) → b ≡ false
    → first_trap xs ≡ first_trap ((b, t) ∷ xs)
unfolding first_trap
trap-later b t xs is = rw is refl

pub no-traps : None ≡ first_trap []
unfolding first_trap
no-traps = refl

-- where the first test is of a limit, and there is no trap, the limit is kept
pub within-limit : (limit n : ℕ) (t : Trap) (xs : List (Bool × Trap))
    → first_trap ((nat_lt limit n, t) ∷ xs) ≡ None → n ≤ limit
within-limit limit n t xs e = ltb-false limit n (first-fails (nat_lt limit n) t xs e)
