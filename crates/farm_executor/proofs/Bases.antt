-- Base chroots, lane after lane.
use Rattle.std.proofs.Common.{◌≡◌, inl, inr, ℕ, ◌+◌, List, [], ◌∷◌, ◌++◌, length-append, sym, ap, subst, ◌∙◌, arith}
use Rattle.chroot_state.specs.Held.{Held, IsHeld, opened}
use Rattle.plan_model.specs.Plan.{lane}
use Rattle.plan_verifier.specs.Accepted.{AcceptedPlan}
use Rattle.farm_executor.specs.Seated.{AreLaneBases}
use Rattle.farm_executor.proofs.Pairs.{at_push_place}

pub bases_more : (a : AcceptedPlan) (n : ℕ) (chroots : List Held) (c : Held)
    → AreLaneBases a n chroots → c ≡ opened a.universe (lane a.plan n).base → IsHeld a.universe c
    → AreLaneBases a (n + 1) (chroots ++ c ∷ [])
bases_more a n chroots c h is held = record {
  long = omega (arith, h.long, length-append chroots (c ∷ []));
  each = λ l d at. elim (at_push_place chroots c d l at) [
    | inl old ↦ h.each l d old
    | inr new ↦
        let place : l ≡ n = omega (arith, new.0, h.long) in (
          sym new.1 ∙ is ∙ ap (λ k. opened a.universe (lane a.plan k).base) (sym place),
          subst (IsHeld a.universe) new.1 held,
        )
  ];
}
