-- A world in which all lanes are at their next archive steps, and the end of a farm.
use Rattle.std.proofs.Common.{◌≡◌, inl, inr, ℕ, zero, suc, ◌<◌, ◌≤◌, true, List, length, refl, sym, ap, subst, ◌∙◌, arith, get_or-set_same, get_or-set_other}
use Rattle.std.specs.Prelude.{slice_index_or, nat_le}
use Rattle.std.proofs.lemmas.Bool.{cases_eq, le-leb}
use Rattle.farm_model.specs.Common.{Universe, every_below}
use Rattle.plan_model.specs.Common.{Plan, lane, LaneState, no_state, lane_state, is_finished, IsSound, World, world_lane, ready}
use Rattle.archive_laws.specs.Reaching.{AreReady, AllLanesReady, EndsAreFinished}
use Rattle.archive_laws.specs.Shown.{IsReached, with_lane, ready_lane}
use Rattle.archive_laws.proofs.Settles.{ready_reached}

module _ (u : Universe) (p : Plan) (sound : IsSound u p) (w : World) (r : IsReached u p w) where
  -- lane after lane
  are_ready : (n : ℕ) → n ≤ length p → AreReady u p w n
  are_ready zero le = record {
    world = w;
    reached = r;
    words = refl;
    here = λ l lt. absurd (omega arith);
    others = λ l ge. refl;
  }
  are_ready (suc n) le =
      let v = are_ready n (omega arith) in
      let st = ready_lane u p v.world n in
      let same : world_lane v.world n ≡ world_lane w n = v.others n (omega arith) in
      let now : st ≡ ready_lane u p w n = ap (λ x. ready u (lane p n) x) same in
      record {
        world = with_lane v.world n st;
        reached = ready_reached u p sound n (omega arith) v.world v.reached;
        words = v.words;
        here = λ l lt. elim (cases_eq l n) [
          | inl is ↦ subst (λ k. world_lane (with_lane v.world n st) k ≡ ready_lane u p w k)
              (sym is)
              (get_or-set_same v.world.lanes n st no_state (omega (arith, v.reached.lanes)) ∙ now)
          | inr apart ↦ get_or-set_other v.world.lanes n l st no_state apart
              ∙ v.here l (omega arith)
        ];
        others = λ l ge. get_or-set_other v.world.lanes n l st no_state (λ e. omega arith)
            ∙ v.others l (omega arith);
      }

-- the local instructions of all lanes lead to a world that is reached
pub all_lanes_ready : AllLanesReady
all_lanes_ready u p sound w r = are_ready u p sound w r (length p) (omega arith)

-- where every lane is at its end, the state is finished
pub ends_are_finished : EndsAreFinished
unfolding is_finished
ends_are_finished u p w s sh h = all (length p) (λ l lt. lt)
  where
    at : (l : ℕ) → lane_state s l ≡ world_lane w l
    at l = ap (λ (xs : List LaneState). slice_index_or xs l no_state) sh.lanes

    all : (n : ℕ) → ((l : ℕ) → l < n → l < length p)
        → every_below n (λ l. nat_le (length (lane p l).instructions) (lane_state s l).done) ≡ true
    all zero lt = refl
    all (suc n) lt =
        let le : length (lane p n).instructions ≤ (lane_state s n).done =
        omega (arith, h n (lt n (omega arith)), ap (λ (x : LaneState). x.done) (at n)) in
        rw (le-leb (length (lane p n).instructions) (lane_state s n).done le)
        (all n (λ l k. lt l (omega arith)))
