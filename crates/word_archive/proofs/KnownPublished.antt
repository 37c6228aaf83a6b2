-- What a lane knows ahead of a publish was published under a serial.
use Rattle.std.proofs.Common.{All, Bool, List, Some, [], ap, arith, false, get_or, get_or-set_same, inl, inr, length, refl, slice_get, subst, suc, sym, take, true, ℕ, ◌+◌, ◌-◌, ◌<◌, ◌∙◌, ◌≡◌, ◌≤◌, ◌⊎◌}
use Rattle.std.proofs.lemmas.Bool.{cases_lt, false≢true, or_cases}
use Rattle.farm_model.proofs.BelowLaws.{some_below-found}
use Rattle.farm_model.specs.Common.{some_below, contains, has_bit, initial, Universe}
use Rattle.farm_model.specs.declared.types.Variant.{Variant}
use Rattle.farm_laws.proofs.Branches.{is_inner, landed}
use Rattle.plan_model.specs.Common.{IsBranched, landing, Lane, lane, lane_outputs, outputs_before, outputs_of, no_state, start, LaneState, World, ready, world_lane}
use Rattle.plan_model.specs.declared.instructions.Instruction.{Instruction}
use Rattle.plan_model.specs.declared.instructions.Instruction.TheVariants.{Publish, Otherwise, EndWhen}
use Rattle.archive_laws.proofs.Foreseen.{worlds_are_foreseen}
use Rattle.archive_laws.proofs.OutputPlaces.{before, before_more, before_next}
use Rattle.archive_laws.proofs.Recorded.{words_are_recorded}
use Rattle.archive_laws.proofs.Settles.{ready_reached}
use Rattle.archive_laws.specs.LaneMoves.{IsOutputOf}
use Rattle.archive_laws.specs.Shown.{ready_lane, recorded, with_lane}
use Rattle.archive_laws.specs.Records.{Record, ready_in}
use Rattle.plan_verifier.specs.Accepted.{AcceptedPlan, IsAccepted, known_rows}
use Rattle.word_archive.specs.Rule.{AreWordsOf, serial_word, shown_world}
use Rattle.word_archive.specs.Serials.{IsPublishedBelow, made_by}
use Rattle.word_archive.proofs.Lists.{get_some}
use Rattle.word_archive.proofs.Loads.{in_plan, stands_at}
use Rattle.word_archive.proofs.Moves.{lane_shown}
use Rattle.plan_verifier.proofs.Promises.{annotation}
use Rattle.word_archive.proofs.SerialsDrawn.{all_less, found_at, less_at, times_drawn}

-- what is read past the last record
no_record : Record
no_record = record { at = no_state; serials = []; loaded = []; halted = false; saw = false }

-- an instruction that stays in a branch has no output
inner_none : (u : Universe) (x : Instruction) → is_inner x ≡ true → length (outputs_of u x) ≡ 0
inner_none u (Publish r) inner = absurd (false≢true inner)
inner_none u _ inner = refl

-- so there are as many outputs before where a lane goes on as before where it comes to
before_landing : (u : Universe) (xs : List Instruction) → IsBranched xs → (k : ℕ)
    → before u xs (landing xs k) ≡ before u xs k
before_landing u xs branched k =
    landed xs branched (λ j. before u xs j ≡ before u xs k) (λ w j. before u xs j ≡ before u xs k)
    (λ j. before u xs j ≡ before u xs k) (λ j stands same. same)
    (λ w j side is same. behind j Otherwise is refl same)
    (λ w j x is side inner same. behind j x is (inner_none u x inner) same)
    (λ w j side is same. behind j EndWhen is refl same)
    (λ w j side is same. behind j EndWhen is refl same) k refl
  where
    behind : (j : ℕ) (x : Instruction) → slice_get xs j ≡ Some x → length (outputs_of u x) ≡ 0
        → before u xs j ≡ before u xs k → before u xs (suc j) ≡ before u xs k
    behind j x is none same = let next = before_next u xs j x is in omega (arith, next, none, same)

-- where an output is one of two instructions, they are one
pub one_place : (u : Universe) (of : Lane) → IsBranched of.instructions → (k m j : ℕ)
    → IsOutputOf u of k j → IsOutputOf u of m j → k ≡ m
one_place u of branched k m j a b =
    let ends_k = before_landing u of.instructions branched (suc k) in
    let ends_m = before_landing u of.instructions branched (suc m) in
    elim (cases_lt k m) [
      | inl lt ↦ absurd (apart k m j (omega (arith, a.1, ends_k)) b.0 lt)
      | inr ge ↦ elim (cases_lt m k) [
        | inl lt ↦ absurd (apart m k j (omega (arith, b.1, ends_m)) a.0 lt)
        | inr le ↦ omega arith
      ]
    ]
  where
    apart : (k m j : ℕ) → j < outputs_before u of (suc k) 0 → outputs_before u of m 0 ≤ j → k < m
        → ⊥
    apart k m j below above lt =
        let d = m - suc k in
        let e : suc k + d ≡ m = omega arith in
        let f : before u of.instructions (suc k + d) ≡ before u of.instructions m =
        ap (before u of.instructions) e in
        let g = before_more u of.instructions (suc k) d in
        omega arith

module _ (a : AcceptedPlan) (accepted : IsAccepted a) (words : List ℕ) (records : List Record)
    (stopped : Bool) (st : AreWordsOf a words records stopped) where
  abbrev w : World
  w = shown_world a words records

  -- all serials of a lane are below the serial word
  pub all_below : (l : ℕ) (r : Record) → slice_get records l ≡ Some r
      → All (λ x. x < serial_word a words) r.serials
  all_below l r here =
      all_less (serial_word a words) r.serials
      (λ x. let t = times_drawn x records l r here in let g = st.serials.once x in omega arith)

  -- a variant that some lane's record stands for
  recorded_published : (v : Variant)
      → some_below (length a.plan)
      (λ m. contains (recorded a.universe (lane a.plan m) (world_lane w m)) v) ≡ true
      → IsPublishedBelow a records v (serial_word a words)
  recorded_published v some_lane =
      let u = a.universe in
      let f = some_below-found (length a.plan)
      (λ m. contains (recorded u (lane a.plan m) (world_lane w m)) v) some_lane in
      let m = f.0 in
      let q = get_or records m no_record in
      let in_list = f.1 in
      let it : slice_get records m ≡ Some q =
      get_some records m no_record (omega (arith, st.lanes)) in
      let at_is : world_lane w m ≡ q.at = lane_shown a words records m q it in
      let place = found_at (lane_outputs u (lane a.plan m)) (made_by a m q.at) v
      (subst (λ (x : LaneState). contains (take (made_by a m x) (lane_outputs u (lane a.plan m)))
      v
      ≡ true) at_is f.2) in
      let owed = st.serials.owed m q it in
      let lt = place.1 in
      let o = owed.0 in
      let drawn_as : slice_get q.serials place.0 ≡ Some (get_or q.serials place.0 0) =
      get_some q.serials place.0 0 (omega arith) in
      record {
        publisher = m;
        place = place.0;
        told = q;
        serial = get_or q.serials place.0 0;
        there = it;
        made = lt;
        output = place.2;
        drawn_as = drawn_as;
        below = less_at (serial_word a words) q.serials place.0 _ (all_below m q it) drawn_as;
      }

  -- a variant that the words have is initial, or was published
  pub words_published : (v : Variant) → has_bit w.words v ≡ true
      → (initial a.universe v ≡ true) ⊎ IsPublishedBelow a records v (serial_word a words)
  words_published v there =
      let told = sym (words_are_recorded a.universe a.plan accepted.sound w st.reached v)
      ∙ there in
      elim (or_cases (initial a.universe v) _ told) [
        | inl start ↦ inl start
        | inr some_lane ↦ inr (recorded_published v some_lane)
      ]

  -- what a lane knows ahead of its next archive step was published
  pub known_published : (l : ℕ) (r : Record) → slice_get records l ≡ Some r → (v : Variant)
      → known_rows a l (ready_in a.universe a.plan l r.at).done v ≡ true
      → initial a.universe v ≡ false → IsPublishedBelow a records v (serial_word a words)
  known_published l r here v known new =
      let u = a.universe in
      let p = a.plan in
      let inside = in_plan a accepted words records stopped st l r here in
      let now = ready_lane u p w l in
      let now_is : now ≡ ready_in u p l r.at =
      ap (λ x. ready u (lane p l) x) (stands_at a accepted words records stopped st l r here) in
      let at : world_lane (with_lane w l now) l ≡ now =
      get_or-set_same w.lanes l now no_state (omega (arith, st.reached.lanes, inside)) in
      let foreseen = worlds_are_foreseen u p (known_rows a) accepted.sound (annotation a accepted)
      (with_lane w l now) (ready_reached u p accepted.sound l inside w st.reached) in
      let there : has_bit w.words v ≡ true =
      foreseen.known l v inside
      (subst (λ (x : LaneState). known_rows a l x.done v ≡ true) (sym (at ∙ now_is)) known) in
      elim (words_published v there) [
        | inl start ↦ absurd (false≢true (sym new ∙ start))
        | inr published ↦ published
      ]
