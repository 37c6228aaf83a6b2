-- The finished state of a run whose lanes all came to their ends.
use Rattle.std.proofs.Common.{◌≡◌, ℕ, zero, suc, ◌<◌, ◌≤◌, true, List, [], ◌∷◌, length, map, take, None, Some, slice_get, refl, sym, ap, subst, ◌∙◌, arith, take_all}
use Rattle.std.specs.Prelude.{◌↔◌, slice_index_or}
use Rattle.std.specs.List.{flat_map}
use Rattle.std.proofs.lemmas.Option.{same_Some}
use Rattle.chroot_state.specs.Held.{Held}
use Rattle.archive_laws.specs.LaneMoves.{outputs_made}
use Rattle.archive_laws.specs.Reaching.{AreReady}
use Rattle.archive_laws.specs.Shown.{IsReached}
use Rattle.archive_laws.proofs.AllReady.{all_lanes_ready, ends_are_finished}
use Rattle.archive_laws.proofs.Counted.{ready_count}
use Rattle.farm_archive.specs.declared.publication.Publication.{Publication}
use Rattle.farm_model.specs.declared.types.Variant.{Variant}
use Rattle.archive_laws.specs.Records.{Record, ready_in}
use Rattle.lane_runner.specs.declared.run.LaneStop.{LaneStop}
use Rattle.lane_runner.specs.OnWay.{IsEnded}
use Rattle.plan_model.specs.Common.{lane, lane_outputs, outputs_of, State, lane_state, no_state, is_finished, Reachable, publication, LaneState, World, world_lane}
use Rattle.plan_verifier.specs.Accepted.{AcceptedPlan, IsAccepted}
use Rattle.word_archive.specs.History.{HasOne, entry}
use Rattle.word_archive.specs.Rule.{shown_world}
use Rattle.word_archive.specs.Serials.{made_by}
use Rattle.farm_executor.specs.FarmRuns.{HasCome}
use Rattle.farm_executor.specs.Played.{IsPlayed}
use Rattle.farm_executor.specs.Publications.{HasPublished}
use Rattle.farm_executor.proofs.Codes.{OfLane, of_lane, lane_in_plan, told_is}
use Rattle.farm_executor.proofs.PublishedBy.{publications_are_made}
use Rattle.farm_executor.proofs.Within.{lanes_are_within}

-- a list of records as a list of states
mapped_at : (rs : List Record) (l : ℕ) (r : Record) → slice_get rs l ≡ Some r
    → slice_index_or (map (λ (x : Record). x.at) rs) l no_state ≡ r.at
mapped_at [] l r e = absurd (cc)
mapped_at (x ∷ rs) zero r e = ap (λ (y : Record). y.at) (same_Some x r e)
mapped_at (x ∷ rs) (suc l) r e = mapped_at rs l r e

-- a place at which nothing stands is behind the end
none_behind : {X : Type 0} (xs : List X) (i : ℕ) → slice_get xs i ≡ None → length xs ≤ i
none_behind [] i e = omega arith
none_behind (x ∷ xs) zero e = absurd (cc)
none_behind (x ∷ xs) (suc i) e = let h = none_behind xs i e in omega arith

module _ (a : AcceptedPlan) (accepted : IsAccepted a) (gives_up : Type 0) (stops : List LaneStop)
    (chroots : List Held) (spent : List ℕ) (history : List Publication)
    (played : IsPlayed a gives_up stops chroots spent history)
    (ended : (l : ℕ) (o : OfLane a gives_up stops chroots spent history played l)
    → IsEnded a.universe a.plan l o.steps o.chroot o.told) where
  abbrev OfThis : ℕ → Type 0
  OfThis l = OfLane a gives_up stops chroots spent history played l

  pub this_lane : (l : ℕ) → l < length a.plan → OfThis l
  this_lane l lt = of_lane a gives_up stops chroots spent history played l lt

  -- what words and records show
  abbrev world : World
  world = shown_world a played.words played.records

  abbrev reached : IsReached a.universe a.plan world
  reached = played.closed.stands.reached

  -- all lanes at their next archive steps
  abbrev all_ready : AreReady a.universe a.plan world (length a.plan)
  all_ready = all_lanes_ready a.universe a.plan accepted.sound world reached

  abbrev pub state : State
  state = all_ready.reached.shown.0

  pub reachable : Reachable a.universe a.plan state
  reachable = all_ready.reached.shown.1

  world_at : (l : ℕ) (o : OfThis l) → world_lane world l ≡ o.told.at
  world_at l o = mapped_at played.records l o.told o.told_at

  ready_at : (l : ℕ) → l < length a.plan → (o : OfThis l)
      → world_lane all_ready.world l ≡ ready_in a.universe a.plan l o.told.at
  ready_at l lt o = all_ready.here l lt ∙ ap (ready_in a.universe a.plan l) (world_at l o)

  lane_at : (l : ℕ) → l < length a.plan → (o : OfThis l)
      → lane_state state l ≡ ready_in a.universe a.plan l o.told.at
  lane_at l lt o =
      ap (λ (xs : List LaneState). slice_index_or xs l no_state) all_ready.reached.shown.2.lanes
      ∙ ready_at l lt o

  at_end : (l : ℕ) (o : OfThis l)
      → length (lane a.plan l).instructions ≤ (ready_in a.universe a.plan l o.told.at).done
  at_end l o = none_behind (lane a.plan l).instructions _ (ended l o).ends

  pub done_is : (l : ℕ) → l < length a.plan
      → (lane_state state l).done ≡ length (lane a.plan l).instructions
  done_is l lt =
      let o = this_lane l lt in
      let at = ap (λ (st : LaneState). st.done) (lane_at l lt o) in
      let most = lanes_are_within a.universe a.plan accepted.sound state reachable l lt in
      omega (arith, at, most, at_end l o)

  pub has_come : (l : ℕ) → l < length a.plan → (o : OfThis l)
      → HasCome a state l o.chroot o.steps
  has_come l lt o = record {
    done = done_is l lt;
    chroot = ap (λ (st : LaneState). st.chroot) (lane_at l lt o) ∙ sym (ended l o).chroot;
    cost = ap (λ (st : LaneState). st.spent) (lane_at l lt o) ∙ sym (ended l o).cost;
    held = o.run.end.held;
  }

  pub finished : is_finished a.plan state ≡ true
  finished =
      ends_are_finished a.universe a.plan all_ready.world state all_ready.reached.shown.2
      (λ l lt. let o = this_lane l lt in
      let at = ap (λ (st : LaneState). st.done) (ready_at l lt o) in
      omega (arith, at, at_end l o))

  -- a lane has made as many outputs as its record tells
  made_is : (l : ℕ) → l < length a.plan → (o : OfThis l)
      → outputs_made a.universe (lane a.plan l) (lane_state state l) ≡ made_by a l o.told.at
  made_is l lt o =
      ap (outputs_made a.universe (lane a.plan l)) (lane_at l lt o
      ∙ ap (ready_in a.universe a.plan l) (sym (world_at l o)))
      ∙ ready_count a.universe a.plan accepted.sound l lt world reached
      ∙ ap (outputs_made a.universe (lane a.plan l)) (world_at l o)

  -- which is all that it has
  pub all_made : (l : ℕ) → l < length a.plan → (o : OfThis l)
      → length (lane_outputs a.universe (lane a.plan l)) ≤ made_by a l o.told.at
  all_made l lt o =
      let is = (lane a.plan l).instructions in
      let whole : take (lane_state state l).done is ≡ is =
      ap (λ n. take n is) (done_is l lt) ∙ take_all (length is) is (omega arith) in
      let long = ap (λ xs. length (flat_map (outputs_of a.universe) xs)) whole in
      omega (arith, long, made_is l lt o)

  made : (l : ℕ) (v : Variant) → HasPublished state l v
      → HasOne history (λ h. (h.lane ≡ l) × (h.variant ≡ v))
  made l v q =
      let m = (publications_are_made a.universe a.plan accepted.sound state reachable).each q.0
      (publication l v) q.1 in
      let o = this_lane l m.in_plan in
      let h = played.closed.told.all l m.place o.told o.told_at
      (omega (arith, m.made, made_is l m.in_plan o)) in (
        h.number,
        entry h.serial l h.output,
        h.stands,
        (refl, same_Some h.output v (sym h.variant ∙ m.output)),
      )

  back : (l : ℕ) (v : Variant) → HasOne history (λ h. (h.lane ≡ l) × (h.variant ≡ v))
      → HasPublished state l v
  back l v q =
      let h = q.1 in
      let t = played.closed.told.each q.0 h q.2 in
      let lt = lane_in_plan a gives_up stops chroots spent history played h.lane t.told t.there in
      let o = this_lane h.lane lt in
      let is = told_is a gives_up stops chroots spent history played h.lane t.told o t.there in
      let same = ap (λ (r : Record). made_by a h.lane r.at) is in
      let found : HasPublished state h.lane h.variant =
      (publications_are_made a.universe a.plan accepted.sound state reachable).all h.lane t.place
      h.variant lt (omega (arith, t.made, made_is h.lane lt o, same)) t.output in
      subst (λ w. HasPublished state l w) q.3.1
      (subst (λ k. HasPublished state k h.variant) q.3.0 found)

  pub published_is : (l : ℕ) (v : Variant)
      → HasPublished state l v ↔ HasOne history (λ h. (h.lane ≡ l) × (h.variant ≡ v))
  published_is l v = (made l v, back l v)
