-- What the schedule of a run comes to.
use Rattle.std.proofs.Common.{◌≡◌, ℕ, suc, List, [], ◌∷◌, None, ap, ◌∙◌}
use Rattle.farm_model.specs.Universe.{Universe}
use Rattle.plan_model.specs.Common.{Plan, State, Run, play_on, play}

-- a run meets no trap, and ends where it leads
pub plays : (u : Universe) (p : Plan) (k : ℕ) (s t : State) (ls : List ℕ) → Run u p s ls t
    → play u p k s ls ≡ record { state = t; stop = None }
plays u p k s t [] r = ap (λ x. record { state = x; stop = None }) r
plays u p k s t (l ∷ ls) r =
    ap (λ o. play_on k s l o (λ m. play u p (suc k) m ls)) r.1 ∙ plays u p (suc k) r.0 t ls r.2
