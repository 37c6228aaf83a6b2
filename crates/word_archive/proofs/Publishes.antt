-- An output of a lane.
use Rattle.std.proofs.Common.{Bool, List, Option, Some, [], ap, arith, bit_or, get_or, inl, inr, length, length-set, refl, set, slice_get, subst, suc, sym, take, ℕ, ◌+◌, ◌<◌, ◌^◌, ◌∙◌, ◌≡◌, ◌≢◌, ◌⊎◌}
use Rattle.std.proofs.Math.Seq.{take-set-lt}
use Rattle.std.proofs.lemmas.Bool.{cases_eq}
use Rattle.std.specs.Int.{bit_at}
use Rattle.std.specs.Prelude.{slice_index}
use mathlib.Core.Option.{none}
use Rattle.atomic_table.specs.Table.{Allows, Me, keeps, step}
use Rattle.farm_model.specs.Packages.{names}
use Rattle.farm_model.specs.declared.types.Variant.{Variant}
use Rattle.plan_model.specs.Common.{instruction_at, lane, LaneState, World, ready, with_bit, world_lane}
use Rattle.farm_laws.proofs.Safe.{variants_name}
use Rattle.archive_laws.proofs.OutputReaches.{outputs_reach}
use Rattle.archive_laws.specs.LaneMoves.{behind_output, output_of}
use Rattle.archive_laws.specs.Reaching.{OutputReaches}
use Rattle.archive_laws.specs.Shown.{IsReached}
use Rattle.archive_laws.specs.Bounds.{IsWithinBits}
use Rattle.archive_laws.specs.Records.{Record, after_output, after_publish, next_output}
use Rattle.plan_verifier.specs.Accepted.{AcceptedPlan, IsAccepted, known_rows}
use Rattle.word_archive.specs.Rule.{AreWordsOf, IsHalted, Keeps, KeepsRule, halt_word, serial_word, shown_world}
use Rattle.word_archive.specs.Serials.{IsSerials, drawn, made_by}
use Rattle.word_archive.specs.Steps.{Published}
use Rattle.word_archive.specs.Views.{SeatView, lane_view}
use Rattle.word_archive.proofs.HaltWord.{halts_stay}
use Rattle.word_archive.proofs.Lists.{get_set, index_set, index_set_other, index_take, map_set}
use Rattle.word_archive.proofs.Loads.{in_plan, stands_at}
use Rattle.word_archive.proofs.Moves.{changed, lane_moves}
use Rattle.word_archive.proofs.Records.{record_holds}
use Rattle.plan_verifier.proofs.Promises.{annotation}
use Rattle.word_archive.proofs.SerialsKept.{serials_stay}
use Rattle.word_archive.proofs.WordBits.{or_both, or_grows, set_bits}

module _ (a : AcceptedPlan) (accepted : IsAccepted a) (words : List ℕ) (records : List Record)
    (stopped : Bool) (st : AreWordsOf a words records stopped) (l : ℕ) (r : Record)
    (here : slice_get records l ≡ Some r) (v : Variant)
    (next : next_output a.universe a.plan l r.at ≡ Some v) where
  abbrev w : World
  w = shown_world a words records

  -- the lane is one of the plan
  abbrev inside : l < length a.plan
  inside = in_plan a accepted words records stopped st l r here

  -- the lane behind its next output
  abbrev behind : LaneState → LaneState
  behind x = behind_output a.universe (lane a.plan l) (ready a.universe (lane a.plan l) x)
      (instruction_at a.plan l (ready a.universe (lane a.plan l) x).done)

  -- the output that comes next
  abbrev comes : LaneState → Option Variant
  comes x = output_of a.universe (ready a.universe (lane a.plan l) x).made
      (instruction_at a.plan l (ready a.universe (lane a.plan l) x).done)

  -- the world has the lane where its record says
  abbrev at_is : world_lane w l ≡ r.at
  at_is = stands_at a accepted words records stopped st l r here

  -- the lane can give the output
  pub given_next : OutputReaches a.universe a.plan w l v (behind r.at)
  given_next =
      subst (λ x. OutputReaches a.universe a.plan w l v (behind x)) at_is
      (outputs_reach a.universe a.plan (known_rows a) accepted.sound (annotation a accepted) w
      st.reached l v inside (ap comes at_is ∙ next))

  -- it is one output more
  pub made_rises : made_by a l (after_output a.universe a.plan l (Some v) r).at
      ≡ suc (made_by a l r.at)
  made_rises = given_next.made ∙ ap (λ x. suc (made_by a l x)) at_is

  -- the output has a known name
  pub named : v.name < names a.universe
  named = variants_name a.universe v.name v.bit given_next.known

  -- the words are those of the records after it
  pub publish_stands : length r.serials ≡ suc (made_by a l r.at)
      → AreWordsOf a (set words v.name (bit_or (slice_index words v.name) (2 ^ v.bit)))
      (set records l (after_output a.universe a.plan l (Some v) r)) stopped
  publish_stands drawn =
      let m = names a.universe in
      let r' = after_output a.universe a.plan l (Some v) r in
      let found = slice_index words v.name in
      let words' = set words v.name (bit_or found (2 ^ v.bit)) in
      let within : v.name < length words = omega (arith, st.long, named) in
      let made : made_by a l r'.at ≡ suc (made_by a l r.at) =
      given_next.made ∙ ap (λ x. suc (made_by a l x)) at_is in
      let at_serial : serial_word a words' ≡ serial_word a words =
      index_set_other words v.name m (bit_or found (2 ^ v.bit)) (λ e. let n = named in
      omega arith) in
      let at_halt : halt_word a words' ≡ halt_word a words =
      index_set_other words v.name (m + 1) (bit_or found (2 ^ v.bit)) (λ e. let n = named in
      omega arith) in
      let written : with_bit (take m words) v ≡ take m words' =
      ap (λ x. set (take m words) v.name (bit_or x (2 ^ v.bit))) (index_take words m v.name named)
      ∙ sym (take-set-lt m words v.name (bit_or found (2 ^ v.bit)) named) in
      record {
        long = length-set words v.name (bit_or found (2 ^ v.bit)) ∙ st.long;
        lanes = length-set records l r' ∙ st.lanes;
        loads = changed (λ k q. (n : ℕ) → n < m
            → IsWithinBits (slice_index q.loaded n) (slice_index words' n)) records l r r' here
            (λ n lt. mine n lt (cases_eq n v.name) within)
            (λ k q e n lt b one. grows n (cases_eq n v.name) within b
            (st.loads k q e n lt b one));
        serials = subst (λ x. IsSerials a x (set records l r')) (sym at_serial)
            (serials_stay a (serial_word a words) records l r r' st.serials here refl
            (omega arith, omega arith) (omega arith));
        halts = subst (λ x. IsHalted x (set records l r') stopped) (sym at_halt)
            (halts_stay (halt_word a words) records stopped l r r' st.halts here refl
            (st.halts.sights l r here));
        reached = subst (λ (y : List ℕ × List LaneState). IsReached a.universe a.plan
            (record { words = y.0; lanes = y.1 }))
            (λ i. (written i, sym (map_set (λ (q : Record). q.at) records l r') i))
            given_next.reached;
      }
    where
      grows : (i : ℕ) → (i ≡ v.name) ⊎ (i ≢ v.name) → v.name < length words
          → IsWithinBits (get_or words i 0)
          (get_or (set words v.name (bit_or (get_or words v.name 0) (2 ^ v.bit))) i 0)
      grows i (inl is) within =
          subst (λ j. IsWithinBits (get_or words j 0)
          (get_or (set words v.name (bit_or (get_or words v.name 0) (2 ^ v.bit))) j 0)) (sym is)
          (λ b one. ap (λ x. bit_at x b)
          (index_set words v.name (bit_or (get_or words v.name 0) (2 ^ v.bit)) within)
          ∙ or_grows (get_or words v.name 0) (2 ^ v.bit) b one)
      grows i (inr apart) within =
          λ b one. ap (λ x. bit_at x b)
          (index_set_other words v.name i (bit_or (get_or words v.name 0) (2 ^ v.bit)) apart)
          ∙ one

      mine : (n : ℕ) → n < names a.universe → (n ≡ v.name) ⊎ (n ≢ v.name) → v.name < length words
          → IsWithinBits (get_or (with_bit r.loaded v) n 0)
          (get_or (set words v.name (bit_or (get_or words v.name 0) (2 ^ v.bit))) n 0)
      mine n lt (inl is) within =
          subst (λ j. IsWithinBits (get_or (with_bit r.loaded v) j 0)
          (get_or (set words v.name (bit_or (get_or words v.name 0) (2 ^ v.bit))) j 0)) (sym is)
          (λ b one. ap (λ x. bit_at x b)
          (index_set words v.name (bit_or (get_or words v.name 0) (2 ^ v.bit)) within)
          ∙ or_both (get_or r.loaded v.name 0) (get_or words v.name 0) (2 ^ v.bit)
          (st.loads l r here v.name named) b
          (set_bits r.loaded v.name (bit_or (get_or r.loaded v.name 0) (2 ^ v.bit)) b one))
      mine n lt (inr apart) within =
          λ b one. ap (λ x. bit_at x b)
          (index_set_other words v.name n (bit_or (get_or words v.name 0) (2 ^ v.bit)) apart)
          ∙ st.loads l r here n lt b
          (ap (λ x. bit_at x b) (sym (index_set_other r.loaded v.name n
          (bit_or (get_or r.loaded v.name 0) (2 ^ v.bit)) apart)) ∙ one)

-- the step of a lane's seat
pub publishes : {S : Type 0} (a : AcceptedPlan) (slots id l k : ℕ) (r : Record) (v : Variant)
    → IsAccepted a → next_output a.universe a.plan l r.at ≡ Some v
    → length r.serials ≡ suc (made_by a l r.at)
    → k ≡ 2 ^ v.bit
    → Allows {S = S} {V = SeatView} (KeepsRule a) slots id (lane_view a l r, []) v.name
    (λ x. bit_or x k)
    (Published (step slots v.name k 0 none) (lane_view a l r, []))
publishes {S} a slots id l k r v accepted next drawn power s h homes at small =
    let r' = after_publish a.universe a.plan l r in
    let here = (h.fits id (lane_view a l r) at).entries.0.1 in
    let st = h.stands in
    let words' = set s.words v.name (bit_or (get_or s.words v.name 0) (2 ^ v.bit)) in
    let stands : AreWordsOf a words' (set h.records l r') h.stopped =
    subst (λ o. AreWordsOf a words' (set h.records l (after_output a.universe a.plan l o r))
    h.stopped) (sym next)
    (publish_stands a accepted s.words h.records h.stopped st l r here v next drawn) in
    let kept = lane_moves a s.words words' s.views id l r r' h at stands in (
      lane_view a l r',
      keeps,
      tt,
      subst (λ x. Keeps a (set s.words v.name (bit_or (get_or s.words v.name 0) x))
          (set s.views id (lane_view a l r'))) (sym power) kept,
      (
        (
          refl,
          record_holds a accepted words' (set h.records l r') h.stopped stands l r'
              (get_set h.records l r r' here),
        ),
        subst (λ o. made_by a l (after_output a.universe a.plan l o r).at
            ≡ suc (made_by a l r.at)) (sym next)
            (made_rises a accepted s.words h.records h.stopped st l r here v next),
      ),
    )

-- the same, where the seat and the word are known by equations
pub publishes_as : {S : Type 0} (a : AcceptedPlan) (slots id l n k : ℕ) (r : Record) (v : Variant)
    (me : Me S SeatView) → IsAccepted a → next_output a.universe a.plan l r.at ≡ Some v
    → length r.serials ≡ suc (made_by a l r.at) → k ≡ 2 ^ v.bit → n ≡ v.name
    → me ≡ (lane_view a l r, [])
    → Allows {S = S} {V = SeatView} (KeepsRule a) slots id me n (λ x. bit_or x k)
    (Published (step slots n k 0 none) me)
publishes_as {S} a slots id l n k r v me accepted next drawn power name is =
    subst (λ (m : Me S SeatView × ℕ). Allows {S = S} {V = SeatView} (KeepsRule a) slots id m.0 m.1
    (λ x. bit_or x k) (Published (step slots m.1 k 0 none) m.0)) (λ i. (sym is i, sym name i))
    (publishes a slots id l k r v accepted next drawn power)
