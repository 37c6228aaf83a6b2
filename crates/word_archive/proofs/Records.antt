-- What is kept of a lane's record.
use Rattle.std.proofs.Common.{Bool, List, Some, arith, length, slice_get, subst, ℕ, ◌<◌, ◌≡◌}
use Rattle.std.proofs.lemmas.Option.{slice_get_within}
use Rattle.plan_model.specs.Common.{lane, LaneState}
use Rattle.farm_laws.specs.EventsLeft.{InPlace}
use Rattle.archive_laws.proofs.Counted.{in_place}
use Rattle.archive_laws.specs.Bounds.{IsRecord}
use Rattle.archive_laws.specs.Records.{Record}
use Rattle.plan_verifier.specs.Accepted.{AcceptedPlan, IsAccepted}
use Rattle.word_archive.specs.Rule.{AreWordsOf, shown_world}
use Rattle.word_archive.proofs.Moves.{lane_shown}
use Rattle.word_archive.proofs.SerialsKept.{few_at}

-- the rule says so of each record
pub record_holds : (a : AcceptedPlan) → IsAccepted a → (words : List ℕ) (records : List Record)
    (stopped : Bool) → AreWordsOf a words records stopped → (l : ℕ) (r : Record)
    → slice_get records l ≡ Some r → IsRecord a.universe a.plan l r
record_holds a accepted words records stopped st l r here =
    let inside : l < length a.plan = omega (arith, slice_get_within records l r here, st.lanes) in
    let owed = st.serials.owed l r here in
    record {
      in_plan = inside;
      place = subst (λ (x : LaneState). InPlace a.universe (lane a.plan l).instructions x.done
          x.made)
          (lane_shown a words records l r here)
          (in_place a.universe a.plan accepted.sound (shown_world a words records) st.reached l
          inside);
      made = owed.0;
      one = owed.1;
      few = few_at a.universe records a.plan l r here st.serials.few;
    }
