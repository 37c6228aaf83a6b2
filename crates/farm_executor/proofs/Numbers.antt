-- The serials of a run whose lanes all came to their ends.
use Rattle.std.proofs.Common.{◌≡◌, inl, inr, ℕ, zero, suc, ◌<◌, ◌≤◌, true, false, List, [], ◌∷◌, length, Option, None, Some, slice_get, refl, sym, ap, ◌∙◌, arith}
use Rattle.std.specs.Prelude.{slice_index}
use Rattle.std.proofs.lemmas.Bool.{cases_lt}
use Rattle.std.proofs.lemmas.Option.{same_Some, slice_get_within}
use Rattle.archive_laws.specs.LaneMoves.{outputs_made, IsOutputOf}
use Rattle.chroot_state.specs.Held.{Held}
use Rattle.farm_archive.specs.declared.publication.Publication.{Publication}
use Rattle.farm_model.specs.Packages.{initial}
use Rattle.farm_model.specs.declared.types.Variant.{Variant}
use Rattle.archive_laws.specs.Records.{Record}
use Rattle.lane_runner.specs.declared.run.LaneStop.{LaneStop}
use Rattle.lane_runner.specs.OnWay.{IsEnded}
use Rattle.plan_model.specs.Plan.{Plan, lane, no_lane, lane_outputs}
use Rattle.plan_verifier.specs.Accepted.{AcceptedPlan, IsAccepted, known_rows}
use Rattle.word_archive.specs.History.{HasOne, HasOutput, IsMadeOutput, entry}
use Rattle.word_archive.specs.Rule.{serial_word}
use Rattle.farm_executor.specs.Played.{IsPlayed}
use Rattle.farm_executor.specs.Publications.{IsNumbered, IsOutputNumber}
use Rattle.farm_executor.proofs.Codes.{OfLane, of_lane, lane_in_plan, told_is}
use Rattle.farm_executor.proofs.Comes.{all_made}
use Rattle.farm_executor.proofs.RisingNumbers.{number_is_place}

-- an element by its place, where it is there and where it is not
index_at : (xs : List ℕ) (i x : ℕ) → slice_get xs i ≡ Some x → slice_index xs i ≡ x
index_at [] i x e = absurd (cc)
index_at (y ∷ ys) zero x e = same_Some y x e
index_at (y ∷ ys) (suc i) x e = index_at ys i x e

lane_behind : (p : Plan) (l : ℕ) → length p ≤ l → lane p l ≡ no_lane
lane_behind [] l le = refl
lane_behind (of ∷ p) zero le = absurd (omega arith)
lane_behind (of ∷ p) (suc l) le = lane_behind p l (omega arith)

-- the serials of a record, none where there is no record
abbrev serials_in : Option Record → List ℕ
serials_in None = []
serials_in (Some r) = r.serials

-- only a lane of the plan has outputs
output_in_plan : (a : AcceptedPlan) (l i : ℕ) (v : Variant) → IsOutputNumber a l i v
    → l < length a.plan
output_in_plan a l i v out =
    elim (cases_lt l (length a.plan)) [
      | inl lt ↦ lt
      | inr ge ↦
          let e : slice_get [] i ≡ Some v =
          sym (ap (λ of. slice_get (lane_outputs a.universe of) i) (lane_behind a.plan l ge))
          ∙ out in
          absurd (cc)
    ]

module _ (a : AcceptedPlan) (accepted : IsAccepted a) (gives_up : Type 0) (stops : List LaneStop)
    (chroots : List Held) (spent : List ℕ) (history : List Publication)
    (played : IsPlayed a gives_up stops chroots spent history)
    (ended : (l : ℕ) (o : OfLane a gives_up stops chroots spent history played l)
    → IsEnded a.universe a.plan l o.steps o.chroot o.told) where
  abbrev OfThis : ℕ → Type 0
  OfThis l = OfLane a gives_up stops chroots spent history played l

  this_lane : (l : ℕ) → l < length a.plan → OfThis l
  this_lane l lt = of_lane a gives_up stops chroots spent history played l lt

  this_told : (l : ℕ) (r : Record) (o : OfThis l) → slice_get played.records l ≡ Some r
      → o.told ≡ r
  this_told l r o at = told_is a gives_up stops chroots spent history played l r o at

  -- every serial below the serial word is one of the history
  there : (x : ℕ) → x < serial_word a played.words
      → (k : ℕ) × (h : Publication) × (slice_get history k ≡ Some h) × (h.serial ≡ x)
  there x lt =
      elim (played.closed.missing x lt) [
        | inl found ↦ found
        | inr unused ↦
            let l = unused.0 in
            let in_plan = lane_in_plan a gives_up stops chroots spent history played l unused.1
            unused.2 in
            let o = this_lane l in_plan in
            let same = this_told l unused.1 o unused.2 in
            let drawn = ap (λ (r : Record). length r.serials) same in
            let made = ap (λ (r : Record). outputs_made a.universe (lane a.plan l) r.at) same in
            absurd (omega (arith, unused.3, (ended l o).drawn, drawn, made))
      ]

  serial_is_place : (k : ℕ) (h : Publication) → slice_get history k ≡ Some h → h.serial ≡ k
  serial_is_place =
      number_is_place (λ (h : Publication). h.serial) history (serial_word a played.words)
      played.closed.told.rises played.closed.below there

  -- the serial of output i of lane l
  abbrev serial_of : ℕ → ℕ → ℕ
  serial_of l i = slice_index (serials_in (slice_get played.records l)) i

  serial_at : (l i x : ℕ) (r : Record) → slice_get played.records l ≡ Some r
      → slice_get r.serials i ≡ Some x → serial_of l i ≡ x
  serial_at l i x r at drawn =
      ap (λ o. slice_index (serials_in o) i) at ∙ index_at r.serials i x drawn

  -- an output of a lane, as the history has it
  record Entered (l i : ℕ) (v : Variant) : Type 0 where
    pub of : OfThis l
    pub made : HasOutput a history l i of.told
    pub serial_is : serial_of l i ≡ made.serial
    pub output_is : made.output ≡ v

  entered : (l i : ℕ) (v : Variant) → IsOutputNumber a l i v → Entered l i v
  entered l i v out =
      let lt = output_in_plan a l i v out in
      let o = this_lane l lt in
      let less = slice_get_within _ i v out in
      let all = all_made a accepted gives_up stops chroots spent history played ended l lt o in
      let made = played.closed.told.all l i o.told o.told_at (omega (arith, less, all)) in
      record {
        of = o;
        made = made;
        serial_is = serial_at l i made.serial o.told o.told_at made.drawn_as;
        output_is = same_Some made.output v (sym made.variant ∙ out);
      }

  each_numbered : (k : ℕ) (h : Publication) → slice_get history k ≡ Some h
      → (h.serial ≡ k) × (i : ℕ) × IsOutputNumber a h.lane i h.variant × (serial_of h.lane i ≡ k)
  each_numbered k h at =
      let o = played.closed.told.each k h at in
      let is = serial_is_place k h at in (
        is,
        o.place,
        o.output,
        serial_at h.lane o.place h.serial o.told o.there o.drawn_as ∙ is,
      )

  all_numbered : (l i : ℕ) (v : Variant) → IsOutputNumber a l i v
      → slice_get history (serial_of l i) ≡ Some (entry (serial_of l i) l v)
  all_numbered l i v out =
      let e = entered l i v out in
      let place : serial_of l i ≡ e.made.number =
      e.serial_is ∙ serial_is_place e.made.number (entry e.made.serial l e.made.output)
      e.made.stands in
      ap (slice_get history) place ∙ e.made.stands
      ∙ ap (λ x. Some (entry x l e.made.output)) (sym e.serial_is)
      ∙ ap (λ w. Some (entry (serial_of l i) l w)) e.output_is

  lane_rises : (l i j : ℕ) (v w : Variant) → i < j → IsOutputNumber a l i v
      → IsOutputNumber a l j w → serial_of l i < serial_of l j
  lane_rises l i j v w lt first second =
      let e = entered l i v first in
      let f = entered l j w second in
      let same = told_is a gives_up stops chroots spent history played l f.of.told e.of
      f.of.told_at in
      let drawn = ap (λ (r : Record). slice_get r.serials j) same ∙ f.made.drawn_as in
      let h = e.of.run.rising i j e.made.serial f.made.serial lt e.made.drawn_as drawn in
      omega (arith, h, e.serial_is, f.serial_is)

  known_below : (l place i : ℕ) (v known : Variant) → IsOutputNumber a l i v
      → IsOutputOf a.universe (lane a.plan l) place i → known_rows a l place known ≡ true
      → initial a.universe known ≡ false
      → HasOne history (λ h. (h.variant ≡ known) × (h.serial < serial_of l i))
  known_below l place i v known out of knows new =
      let e = entered l i v out in
      let h = entry e.made.serial l e.made.output in
      let less = slice_get_within _ i v out in
      let all = all_made a accepted gives_up stops chroots spent history played ended l
      (output_in_plan a l i v out) e.of in
      let o : IsMadeOutput a played.records h = record {
        told = e.of.told;
        place = i;
        there = e.of.told_at;
        made = omega (arith, less, all);
        drawn_as = e.made.drawn_as;
        output = e.made.variant;
      } in
      let q = played.closed.above e.made.number place h o known e.made.stands of knows new in (
        q.0,
        q.1,
        q.2,
        (q.3.0, let less = q.3.1 in omega (arith, less, e.serial_is)),
      )

  pub numbered : IsNumbered a history
  numbered = record {
    serial = serial_of;
    each = each_numbered;
    all = all_numbered;
    rises = lane_rises;
    above = known_below;
  }
