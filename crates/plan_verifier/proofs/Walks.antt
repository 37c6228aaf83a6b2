-- What the walks over the lanes come to.
use Rattle.std.proofs.Common.{◌≡◌, ◌≢◌, ℕ, ◌+◌, ◌<◌, sym, subst, ◌∙◌, List, [], ◌∷◌, ◌++◌, length, length-append, inl, inr, None, Err, arith}
use Rattle.std.proofs.lemmas.Bool.{cases_eq}
use Rattle.std.proofs.lemmas.List.{get_or_append_left}
use Rattle.std.proofs.Math.Seq.{get_or-append_seam}
use Rattle.farm_model.specs.Universe.{Universe}
use Rattle.plan_model.specs.Common.{Rows, IsGreatest, lane_cost, AreStuck, Plan, lane, Hazard, Meets, Parts, hazard_at, IsSafeUnder}
use Rattle.plan_verifier.specs.declared.refusal.Refusal.{Refusal}
use Rattle.plan_verifier.specs.declared.walk.WalkError.{WalkError}
use Rattle.plan_verifier.specs.Accepted.{AreCosts}
use Rattle.plan_verifier.specs.Costs.{IsFirstTold, AreWalked, IsToldUnsafe, IsFirstToldUnsafe, IsWalked}
use Rattle.plan_verifier.specs.Stuck.{IsToldStuck}
use Rattle.plan_verifier.specs.Verdict.{IsRefused, IsVerdictOn}
use Rattle.plan_verifier.specs.Walk.{IsTold, Walked}

-- the cost of one more lane
pub more_costs : (u : Universe) (p : Plan) (rows : Rows) (n : ℕ) (costs : List ℕ) (cost : ℕ)
    → AreCosts u p rows n costs → cost ≡ lane_cost u p rows n
    → AreCosts u p rows (n + 1) (costs ++ cost ∷ [])
more_costs u p rows n costs cost so_far is = record {
  long = length-append costs (cost ∷ []) ∙ omega (arith, so_far.long);
  each = λ l lt. elim (cases_eq l n) [
    | inl same ↦ rw (same, sym so_far.long) (get_or-append_seam costs cost [] 0 ∙ rw so_far.long is)
    | inr other ↦
        get_or_append_left costs (cost ∷ []) 0 l (omega (arith, so_far.long))
        ∙ so_far.each l (omega arith)
  ];
}

first_told : (u : Universe) (p : Plan) (rows : Rows) (l : ℕ) (hazard : Hazard) (told number : ℕ)
    → l < length p → ((j i : ℕ) → j < l → hazard_at u p rows j i ≡ None)
    → IsTold u p rows l hazard told number → IsFirstTold u p rows told hazard number
first_told u p rows l hazard told number lt before walked =
    subst (λ k. IsFirstTold u p rows k hazard number) (sym walked.lane)
    (record {
      i = walked.i;
      numbered = walked.numbered;
      first = record {
        in_plan = lt;
        here = walked.here;
        before = walked.before;
        lanes_before = before;
      };
    })

by_name : (u : Universe) (p : Plan) (rows : Rows) (l number : ℕ) (hazard : Hazard)
    (name : List ℕ) (told : ℕ) → name ≡ (lane p l).name → told ≡ number
    → IsFirstTold u p rows l hazard number → IsFirstToldUnsafe u p rows name told hazard
by_name u p rows l number hazard name told is same walked = record {
  l = l;
  i = walked.i;
  first = walked.first;
  named = is;
  numbered = same ∙ walked.numbered;
}

-- the lane at whose first hazard the walks end
pub walk_ends : (u : Universe) (p : Plan) (rows : Rows) → (l : ℕ) → l < length p
    → ((j i : ℕ) → j < l → hazard_at u p rows j i ≡ None)
    → (error : WalkError) → Walked u p rows l (Err error) → AreWalked u p rows (Err error)
walk_ends u p rows l lt before WalkError.Memory walked = tt
walk_ends u p rows l lt before (WalkError.Unsafe told number trap) walked =
    first_told u p rows l (Meets trap) told number lt before walked
walk_ends u p rows l lt before (WalkError.Uneven told number) walked =
    first_told u p rows l Parts told number lt before walked

-- it is told by the lane's name
pub refused : (u : Universe) (p : Plan) (rows : Rows) (l number : ℕ) (hazard : Hazard)
    → IsFirstTold u p rows l hazard number → (name : List ℕ) → name ≡ (lane p l).name
    → (refusal : Refusal) → IsToldUnsafe name number hazard refusal
    → IsWalked u p rows (Err refusal)
refused u p rows l number hazard walked name is Refusal.Memory told = tt
refused u p rows l number hazard walked name is (Refusal.Unsafe as_name as_number trap) told =
    by_name u p rows l number (Meets trap) as_name.items as_number (told.0 ∙ is) told.1
    (subst (λ h. IsFirstTold u p rows l h number) (sym told.2) walked)
refused u p rows l number hazard walked name is (Refusal.Uneven as_name as_number) told =
    by_name u p rows l number Parts as_name.items as_number (told.0 ∙ is) told.1
    (subst (λ h. IsFirstTold u p rows l h number) (sym told.2) walked)
refused u p rows l number hazard walked name is (Refusal.Text fault) told = absurd told
refused u p rows l number hazard walked name is (Refusal.Stuck names) told = absurd told

is_refused : (u : Universe) (p : Plan) (rows : Rows) → IsGreatest u p rows → (name : List ℕ)
    (number : ℕ) (hazard : Hazard) → IsFirstToldUnsafe u p rows name number hazard
    → IsRefused u p name number hazard
is_refused u p rows greatest name number hazard walked = record {
  rows = rows;
  greatest = greatest;
  l = walked.l;
  i = walked.i;
  first = walked.first;
  named = walked.named;
  numbered = walked.numbered;
}

-- under the greatest rows that is the verdict
pub walked_verdict : (u : Universe) (p : Plan) (rows : Rows) → IsGreatest u p rows
    → (refusal : Refusal) → IsWalked u p rows (Err refusal) → IsVerdictOn u p (Err refusal)
walked_verdict u p rows greatest Refusal.Memory walked = tt
walked_verdict u p rows greatest (Refusal.Unsafe name number trap) walked =
    is_refused u p rows greatest name.items number (Meets trap) walked
walked_verdict u p rows greatest (Refusal.Uneven name number) walked =
    is_refused u p rows greatest name.items number Parts walked
walked_verdict u p rows greatest (Refusal.Text fault) walked = absurd walked
walked_verdict u p rows greatest (Refusal.Stuck names) walked = absurd walked

-- stuck lanes of a plan that is safe
pub stuck_verdict : (u : Universe) (p : Plan) (rows : Rows) → IsGreatest u p rows
    → IsSafeUnder u p rows → (lanes : List ℕ) → AreStuck u p lanes → lanes ≢ []
    → (refusal : Refusal) → IsToldStuck p lanes refusal → IsVerdictOn u p (Err refusal)
stuck_verdict u p rows greatest safe lanes stuck some Refusal.Memory told = tt
stuck_verdict u p rows greatest safe lanes stuck some (Refusal.Stuck names) told = record {
  rows = rows;
  greatest = greatest;
  safe = safe;
  lanes = lanes;
  stuck = stuck;
  some = some;
  named = told;
}
stuck_verdict u p rows greatest safe lanes stuck some (Refusal.Text fault) told = absurd told
stuck_verdict u p rows greatest safe lanes stuck some (Refusal.Unsafe name number trap) told =
    absurd told
stuck_verdict u p rows greatest safe lanes stuck some (Refusal.Uneven name number) told =
    absurd told
