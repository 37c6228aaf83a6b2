-- The draw of a serial: the words are those of the records after it.
use Rattle.std.proofs.Common.{Bool, List, Some, [], ap, arith, false, inl, inr, length, length-append, length-set, map, refl, set, slice_get, subst, suc, sym, true, ℕ, ◌%◌, ◌++◌, ◌+◌, ◌<◌, ◌^◌, ◌∙◌, ◌∷◌, ◌≡◌, ◌≤◌}
use Rattle.std.proofs.lemmas.Option.{slice_get_within}
use Rattle.std.proofs.Math.Nat.{mod-eq_of_lt}
use Rattle.std.proofs.lemmas.List.{take-set-le}
use Rattle.std.specs.Int.{bit_at}
use Rattle.std.specs.Prelude.{slice_index}
use Rattle.farm_model.specs.Packages.{initial, names}
use Rattle.farm_model.specs.declared.types.Variant.{Variant}
use Rattle.plan_model.specs.Common.{lane, lane_outputs, LaneState, World, ready, world_lane}
use Rattle.archive_laws.specs.LaneMoves.{IsOutputOf, behind_output}
use Rattle.archive_laws.specs.Reaching.{OutputReaches}
use Rattle.archive_laws.specs.Shown.{IsReached}
use Rattle.archive_laws.specs.Bounds.{IsWithinBits}
use Rattle.archive_laws.specs.Records.{Record, after_draw, next_of, next_output, ready_in}
use Rattle.plan_verifier.specs.Accepted.{AcceptedPlan, IsAccepted, known_rows}
use Rattle.word_archive.specs.Rule.{AreWordsOf, IsHalted, halt_word, serial_word, shown_world}
use Rattle.word_archive.specs.Serials.{AreFew, IsPublishedBelow, IsSerials, SerialsFit, made_by}
use Rattle.word_archive.proofs.HaltWord.{halts_stay, same_world}
use Rattle.word_archive.proofs.KnownPublished.{known_published, one_place}
use Rattle.word_archive.proofs.Lists.{index_set, index_set_other}
use Rattle.word_archive.proofs.Loads.{in_plan, stands_at}
use Rattle.word_archive.proofs.Moves.{changed}
use Rattle.word_archive.proofs.Publishes.{given_next}
use Rattle.word_archive.proofs.SerialsDrawn.{front_at, last_at, once_next, times_append}
use Rattle.word_archive.proofs.SerialsKept.{below_stays, drawn_set, draws_few, draws_set, few_set}

module _ (a : AcceptedPlan) (accepted : IsAccepted a) (words : List ℕ) (records : List Record)
    (stopped : Bool) (st : AreWordsOf a words records stopped) (l : ℕ) (r : Record)
    (here : slice_get records l ≡ Some r) (v : Variant)
    (next : next_output a.universe a.plan l r.at ≡ Some v) (small : SerialsFit a)
    (room : length r.serials ≡ made_by a l r.at) where
  abbrev w : World
  w = shown_world a words records

  -- where the lane is at its next archive step
  abbrev place : ℕ
  place = (ready_in a.universe a.plan l r.at).done

  -- the world has the lane where its record says
  abbrev at_is : world_lane w l ≡ r.at
  at_is = stands_at a accepted words records stopped st l r here

  -- the lane has an output to make
  abbrev given : OutputReaches a.universe a.plan w l v (behind_output a.universe (lane a.plan l)
      (ready_in a.universe a.plan l r.at) (next_of a.universe a.plan l r.at))
  given = given_next a accepted words records stopped st l r here v next

  -- as many serials were drawn as outputs made
  made_is : made_by a l (world_lane w l) ≡ length r.serials
  made_is = ap (λ (x : LaneState). made_by a l x) at_is ∙ sym room

  -- so the lane has an output without a serial
  has_room : length r.serials < length (lane_outputs a.universe (lane a.plan l))
  has_room =
      omega (
        arith,
        made_is,
        slice_get_within (lane_outputs a.universe (lane a.plan l)) _ v
            given.output,
      )

  -- it is one of the instruction that the lane stands at
  is_output : IsOutputOf a.universe (lane a.plan l) place (length r.serials)
  is_output =
      subst (λ (y : LaneState × ℕ). IsOutputOf a.universe (lane a.plan l) y.0.done y.1)
      (λ i. (ready a.universe (lane a.plan l) (at_is i), made_is i)) given.there

  -- the words with one more serial drawn
  abbrev pub drawn_words : List ℕ
  drawn_words = set words (names a.universe) (serial_word a words + 1)

  abbrev r' : Record
  r' = after_draw (serial_word a words) r

  -- no lane has too many serials then
  few_after : AreFew a.universe (set records l r') a.plan
  few_after =
      few_set a.universe records a.plan l r'
      (omega (arith, has_room, length-append r.serials (serial_word a words ∷ []))) st.serials.few

  -- the serial word does not wrap
  pub no_wrap : (serial_word a words + 1) % 2 ^ 64 ≡ serial_word a words + 1
  no_wrap =
      let total = draws_few a.universe (set records l r') a.plan few_after in
      let more = draws_set records l r r' here in
      let long = length-append r.serials (serial_word a words ∷ []) in
      let count = st.serials.count in
      mod-eq_of_lt (omega arith)

  -- the serials drawn are those below the serial word then
  serials_after : IsSerials a (serial_word a words + 1) (set records l r')
  serials_after =
      let found = serial_word a words in
      let long = length-append r.serials (found ∷ []) in
      record {
        once = λ x. let d = drawn_set x records l r r' here in
            let g = st.serials.once x in
            let t = times_append x r.serials found in
            let u = once_next x found in
            omega arith;
        count = let more = draws_set records l r r' here in
            let count = st.serials.count in
            omega arith;
        few = few_after;
        owed = changed (λ k q. (made_by a k q.at ≤ length q.serials)
            × (length q.serials ≤ suc (made_by a k q.at))) records l r r' here
            (omega arith, omega arith) st.serials.owed;
        above = λ m k j x q v there drawn_is of known new.
            below_stays a records l r r' here (λ i y e. front_at r.serials found i y e)
            (omega arith) v x
            (changed (λ m q. (k j x : ℕ) (v : Variant) → slice_get q.serials j ≡ Some x
            → IsOutputOf a.universe (lane a.plan m) k j → known_rows a m k v ≡ true
            → initial a.universe v ≡ false
            → IsPublishedBelow a records v x) records l r r' here mine
            (λ m q there k j x v d. st.serials.above m k j x q v there d) m q there k j x v
            drawn_is of known new);
      }
    where
      mine : (k j x : ℕ) (v : Variant)
          → slice_get (r.serials ++ serial_word a words ∷ []) j ≡ Some x
          → IsOutputOf a.universe (lane a.plan l) k j
          → known_rows a l k v ≡ true → initial a.universe v ≡ false
          → IsPublishedBelow a records v x
      mine k j x v d of known new =
          elim (last_at r.serials (serial_word a words) j x d) [
            | inl old ↦ st.serials.above l k j x r v here old of known new
            | inr last ↦
                let same_place : k ≡ place =
                one_place a.universe (lane a.plan l)
                (accepted.sound.plan.branched l
                (in_plan a accepted words records stopped st l r here)) k place j of
                (subst (λ n. IsOutputOf a.universe (lane a.plan l) place n) (sym last.0)
                is_output) in
                subst (IsPublishedBelow a records v) last.1
                (known_published a accepted words records stopped st l r here v
                (ap (λ n. known_rows a l n v) (sym same_place) ∙ known) new)
          ]

  -- the words are those of the records after it
  pub draw_stands : AreWordsOf a drawn_words (set records l r') stopped
  draw_stands =
      let m = names a.universe in
      let found = serial_word a words in
      let within : m < length words = omega (arith, st.long) in
      let at_serial : serial_word a drawn_words ≡ found + 1 =
      index_set words m (found + 1) within in
      let at_halt : halt_word a drawn_words ≡ halt_word a words =
      index_set_other words m (m + 1) (found + 1) (λ e. omega arith) in
      let other = λ (n : ℕ) (lt : n < m). index_set_other words m n (found + 1)
      (λ e. omega arith) in
      record {
        long = length-set words m (found + 1) ∙ st.long;
        lanes = length-set records l r' ∙ st.lanes;
        loads = changed (λ k q. (n : ℕ) → n < m
            → IsWithinBits (slice_index q.loaded n) (slice_index drawn_words n)) records l r r'
            here
            (λ n lt b one. ap (λ x. bit_at x b) (other n lt) ∙ st.loads l r here n lt b one)
            (λ k q e n lt b one. ap (λ x. bit_at x b) (other n lt) ∙ st.loads k q e n lt b one);
        serials = subst (λ x. IsSerials a x (set records l r')) (sym at_serial) serials_after;
        halts = subst (λ x. IsHalted x (set records l r') stopped) (sym at_halt)
            (halts_stay (halt_word a words) records stopped l r r' st.halts here refl
            (st.halts.sights l r here));
        reached = subst (λ (ws : List ℕ). IsReached a.universe a.plan
            (record { words = ws; lanes = map (λ (q : Record). q.at) (set records l r') }))
            (sym (take-set-le m words m (found + 1) (omega arith)))
            (same_world a words records l r r' here refl st.reached);
      }
