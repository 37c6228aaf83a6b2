-- What stands before what is refused of four texts.
use Rattle.std.proofs.Common.{◌≡◌, ℕ, List, refl, sym, ◌∙◌, Option, Some, None, MatchOption, Result, Ok, Err, IfErr, IsErrAnd}
use Rattle.deb_text.specs.Answers.{Fails}
use Rattle.deb_text.specs.declared.fault.Fault.{Fault}
use Rattle.farm_model.specs.Universe.{Universe}
use Rattle.farm_universe.specs.declared.refused.Refused.{Refused}
use Rattle.farm_universe.specs.Before.{Leaves, before_of, before_plan, refused_for}
use Rattle.farm_universe.specs.UniverseText.{universe_of}

module _ (packages sources farm : List ℕ) where
  behind-farm : (fault : Fault) → universe_of packages sources farm ≡ Err fault
      → before_of packages sources farm ≡ before_plan packages sources farm
  unfolding before_plan
  behind-farm fault is = rw is refl

  -- what is refused of a farm is refused with it
  pub farm-leaves : {X : Type 0} (result : Result X Refused) (given : Refused)
      → IsErrAnd result (λ refused. refused ≡ given)
      → Fails refused_for given (universe_of packages sources farm)
      → Leaves given (before_of packages sources farm)
      → IfErr result (λ refused. Leaves refused (before_plan packages sources farm))
  farm-leaves (Ok x) given is fails leaves = tt
  farm-leaves (Err refused) given is fails leaves =
      rw is (by (refused_for given) fails leaves)
    where
      by : (told : Option Fault)
          → MatchOption told (Unit {0}) (λ f. universe_of packages sources farm ≡ Err f)
          → MatchOption told (Unit {0}) (λ _. given.before ≡ before_of packages sources farm)
          → MatchOption told (Unit {0}) (λ _. given.before ≡ before_plan packages sources farm)
      by None fails leaves = tt
      by (Some f) fails leaves = leaves ∙ behind-farm f fails

  -- before a plan stands the whole farm
  pub plan-leaves : (refused : Refused) (universe : Universe)
      → universe_of packages sources farm ≡ Ok universe → refused.before ≡ Some universe
      → Leaves refused (before_plan packages sources farm)
  unfolding before_plan
  plan-leaves refused universe is before = by (refused_for refused) where
    by : (told : Option Fault)
        → MatchOption told (Unit {0}) (λ _. refused.before ≡ before_plan packages sources farm)
    by None = tt
    by (Some f) = rw (is, before) refl
