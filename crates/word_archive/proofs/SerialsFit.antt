-- The serials of a plan fit in a word.
use Rattle.std.proofs.Common.{[], arith, length, refl, suc, zero, ◌<◌, ◌^◌, ◌∷◌, ◌≡◌}
use Rattle.std.specs.Prelude.{slice_index_or}
use Rattle.farm_model.specs.Common.{sum_below, Universe}
use Rattle.plan_model.specs.Common.{Plan, count, lane_outputs, no_lane, IsPlan}
use Rattle.farm_archive.proofs.Outputs.{outputs-counted}
use Rattle.farm_archive.specs.Room.{outputs_in}
use Rattle.plan_reader.proofs.Counts.{sum_below-first}
use Rattle.plan_verifier.specs.Accepted.{AcceptedPlan}
use Rattle.word_archive.specs.Serials.{SerialsFit, all_outputs}

-- all outputs, as a sum over the lanes
outputs_below : (u : Universe) (p : Plan)
    → all_outputs u p ≡ sum_below (length p) (λ l. length
    (lane_outputs u (slice_index_or p l no_lane)))
outputs_below u [] = refl
outputs_below u (of ∷ ofs) =
    let f = sum_below-first (length ofs) (λ l. length
    (lane_outputs u (slice_index_or (of ∷ ofs) l no_lane))) in
    let h = outputs_below u ofs in
    omega arith

-- these are the outputs of the plan
all_in : (u : Universe) (p : Plan) → all_outputs u p ≡ outputs_in u p
unfolding outputs_in
all_in u p = outputs_below u p

-- a plan has no more outputs than events, which fit
pub is_small : (a : AcceptedPlan) → IsPlan a.universe a.plan → count a.universe a.plan < 2 ^ 64
    → SerialsFit a
is_small a plan lt =
    omega (
      arith,
      lt,
      all_in a.universe a.plan,
      outputs-counted a.universe a.plan plan.branched,
    )
