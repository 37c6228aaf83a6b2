-- A load of a name's word.
use Rattle.std.proofs.Common.{Bool, List, Some, [], ap, arith, get_or, get_or-set_same, inl, inr, length, length-set, refl, set, slice_get, subst, sym, take, ℕ, ◌<◌, ◌∙◌, ◌≡◌, ◌≢◌, ◌⊎◌}
use Rattle.std.proofs.lemmas.Option.{slice_get_within}
use Rattle.std.proofs.lemmas.Bool.{cases_eq}
use Rattle.std.specs.Int.{bit_at}
use Rattle.std.specs.Prelude.{slice_index}
use mathlib.Core.Option.{none}
use Rattle.atomic_table.specs.Table.{Allows, Me, keeps, step}
use Rattle.farm_model.specs.Packages.{names}
use Rattle.plan_model.specs.Common.{instruction_at, lane, no_state, LaneState, World, ready, world_lane}
use Rattle.archive_laws.proofs.LoadReaches.{loads_reach}
use Rattle.archive_laws.proofs.Settles.{each_lane_steps}
use Rattle.archive_laws.specs.LaneMoves.{moved_by}
use Rattle.archive_laws.specs.Reaching.{LoadReaches}
use Rattle.archive_laws.specs.Shown.{IsReached, ready_lane, with_lane}
use Rattle.archive_laws.specs.Bounds.{IsLoaded, IsWithinBits}
use Rattle.archive_laws.specs.Records.{Record, after_load, ready_in}
use Rattle.plan_verifier.specs.Accepted.{AcceptedPlan, IsAccepted}
use Rattle.word_archive.specs.Rule.{AreWordsOf, Keeps, KeepsRule, shown_world}
use Rattle.word_archive.specs.Serials.{made_by}
use Rattle.word_archive.specs.Steps.{Loaded}
use Rattle.word_archive.specs.Views.{SeatView, lane_view}
use Rattle.word_archive.proofs.HaltWord.{halts_stay}
use Rattle.word_archive.proofs.Lists.{get_set, index_set_other, index_take, map_set, set_index}
use Rattle.word_archive.proofs.Moves.{changed, lane_moves, lane_shown}
use Rattle.word_archive.proofs.Records.{record_holds}
use Rattle.word_archive.proofs.SerialsKept.{serials_stay}
use Rattle.word_archive.proofs.WordBits.{set_bits}

module _ (a : AcceptedPlan) (accepted : IsAccepted a) (words : List ℕ) (records : List Record)
    (stopped : Bool) (st : AreWordsOf a words records stopped) (l : ℕ) (r : Record)
    (here : slice_get records l ≡ Some r) where
  abbrev w : World
  w = shown_world a words records

  -- the lane is one of the plan
  pub in_plan : l < length a.plan
  in_plan = omega (arith, slice_get_within records l r here, st.lanes)

  -- the world has the lane where its record says
  pub stands_at : world_lane w l ≡ r.at
  stands_at = lane_shown a words records l r here

  -- where a load of the name n leaves a lane that stands so
  abbrev goes_to : ℕ → ℕ → LaneState → LaneState
  goes_to n found x =
      moved_by a.universe (lane a.plan l) n found x (ready a.universe (lane a.plan l) x)
      (instruction_at a.plan l (ready a.universe (lane a.plan l) x).done)

  -- a load leaves the lane in a world that is reached
  left : (n : ℕ) → n < names a.universe
      → LoadReaches a.universe a.plan w l (goes_to n (slice_index words n) r.at)
  left n lt =
      subst (λ (y : ℕ × LaneState). LoadReaches a.universe a.plan w l (goes_to n y.0 y.1))
      (λ i. (index_take words (names a.universe) n lt i, stands_at i))
      (loads_reach a.universe a.plan accepted.sound w st.reached l n in_plan)

  -- the world that a load shows
  pub is_loaded : (n : ℕ) → n < names a.universe
      → IsLoaded a.universe a.plan l r.at n (slice_index words n)
  is_loaded n lt =
      let u = a.universe in
      let ready_is : ready_lane u a.plan w l ≡ ready_in a.universe a.plan l r.at =
      ap (λ x. ready u (lane a.plan l) x) stands_at in
      record {
        world = with_lane w l (ready_lane u a.plan w l);
        reached = (each_lane_steps u a.plan accepted.sound w st.reached l in_plan).local;
        stands =
            get_or-set_same w.lanes l (ready_lane u a.plan w l) no_state
            (omega (arith, st.reached.lanes, in_plan))
            ∙ ready_is;
        word = index_take words (names u) n lt;
      }

  -- no output is made by it
  pub made_stays : (n : ℕ) → n < names a.universe
      → made_by a l (after_load a.universe a.plan l n (slice_index words n) r).at
      ≡ made_by a l r.at
  made_stays n lt = (left n lt).made ∙ ap (λ (x : LaneState). made_by a l x) stands_at

  -- the words are those of the records after it
  pub load_stands : (n : ℕ) → n < names a.universe
      → AreWordsOf a words (set records l (after_load a.universe a.plan l n (slice_index words n)
      r)) stopped
  load_stands n lt =
      let found = slice_index words n in
      let r' = after_load a.universe a.plan l n found r in
      let after = left n lt in
      let same : made_by a l r'.at ≡ made_by a l r.at =
      after.made ∙ ap (λ (x : LaneState). made_by a l x) stands_at in
      let owed = st.serials.owed l r here in
      record {
        long = st.long;
        lanes = length-set records l r' ∙ st.lanes;
        loads = changed (λ k q. (m : ℕ) → m < names a.universe
            → IsWithinBits (slice_index q.loaded m) (slice_index words m)) records l r r' here
            (λ m ml. within m ml (cases_eq m n)) st.loads;
        serials = serials_stay a _ records l r r' st.serials here refl
            (let o = owed.0 in let w = owed.1 in (omega arith, omega arith)) (omega arith);
        halts = halts_stay _ records stopped l r r' st.halts here refl (st.halts.sights l r here);
        reached = subst (λ (xs : List LaneState). IsReached a.universe a.plan
            (record { words = take (names a.universe) words; lanes = xs }))
            (sym (map_set (λ (q : Record). q.at) records l r')) after.reached;
      }
    where
      within : (m : ℕ) → m < names a.universe → (m ≡ n) ⊎ (m ≢ n)
          → IsWithinBits (get_or (set r.loaded n (get_or words n 0)) m 0) (get_or words m 0)
      within m ml (inl is) =
          subst (λ k. IsWithinBits (get_or (set r.loaded n (get_or words n 0)) k 0)
          (get_or words k 0))
          (sym is) (λ k one. set_bits r.loaded n (get_or words n 0) k one)
      within m ml (inr apart) =
          λ k one. st.loads l r here m ml k
          (ap (λ x. bit_at x k) (sym (index_set_other r.loaded n m (get_or words n 0) apart))
          ∙ one)

-- the step of a lane's seat
pub loads : {S : Type 0} (a : AcceptedPlan) (slots id l n : ℕ) (r : Record) → IsAccepted a
    → n < names a.universe
    → Allows {S = S} {V = SeatView} (KeepsRule a) slots id (lane_view a l r, []) n (λ x. x)
    (Loaded (step slots n 0 0 none) (lane_view a l r, []))
loads a slots id l n r accepted lt s h homes at small =
    let found = get_or s.words n 0 in
    let r' = after_load a.universe a.plan l n found r in
    let here = (h.fits id (lane_view a l r) at).entries.0.1 in
    let st = h.stands in
    let stands = load_stands a accepted s.words h.records h.stopped st l r here n lt in
    let kept = lane_moves a s.words s.words s.views id l r r' h at stands in (
      lane_view a l r',
      keeps,
      tt,
      subst (λ ws. Keeps a ws (set s.views id (lane_view a l r'))) (sym (set_index s.words n))
          kept,
      (
        (
          refl,
          record_holds a accepted s.words (set h.records l r') h.stopped stands l r'
              (get_set h.records l r r' here),
        ),
        is_loaded a accepted s.words h.records h.stopped st l r here n lt,
        st.loads l r here n lt,
        made_stays a accepted s.words h.records h.stopped st l r here n lt,
      ),
    )

-- the same, where the seat is known by an equation
pub loads_as : {S : Type 0} (a : AcceptedPlan) (slots id l n : ℕ) (r : Record)
    (me : Me S SeatView)
    → IsAccepted a → n < names a.universe → me ≡ (lane_view a l r, [])
    → Allows {S = S} {V = SeatView} (KeepsRule a) slots id me n (λ x. x)
    (Loaded (step slots n 0 0 none) me)
loads_as {S} a slots id l n r me accepted lt is =
    subst (λ (m : Me S SeatView). Allows {S = S} {V = SeatView} (KeepsRule a) slots id m n (λ x. x)
    (Loaded (step slots n 0 0 none) m)) (sym is) (loads a slots id l n r accepted lt)
