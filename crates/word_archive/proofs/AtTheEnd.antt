-- What is told of an archive that is closed follows from its words, records and history.
use Rattle.std.proofs.Common.{Bool, List, Some, [], ap, arith, cond, eqb, inl, inr, length, refl, slice_get, subst, suc, sym, take, true, zero, ℕ, ⊎_elim, ◌+◌, ◌<◌, ◌∙◌, ◌∷◌, ◌≡◌, ◌≤◌, ◌⊎◌}
use Rattle.std.proofs.lemmas.Bool.{cases_Bool, cases_lt, eqb-true, or_left, or_right}
use Rattle.std.proofs.lemmas.Bool.Decides.{nat_tests}
use Rattle.std.proofs.lemmas.Option.{same_Some, slice_get_within}
use Rattle.farm_model.proofs.BelowLaws.{some_below-at}
use Rattle.farm_model.specs.Packages.{contains, has_bit, initial, same}
use Rattle.farm_model.specs.declared.types.Variant.{Variant}
use Rattle.plan_model.specs.Common.{lane, lane_outputs, start, LaneState, world_lane}
use Rattle.farm_laws.proofs.Archive.{same-refl}
use Rattle.farm_archive.specs.declared.publication.Publication.{Publication}
use Rattle.archive_laws.proofs.Recorded.{words_are_recorded}
use Rattle.archive_laws.specs.Shown.{recorded}
use Rattle.archive_laws.specs.Records.{Record}
use Rattle.plan_verifier.specs.Accepted.{AcceptedPlan, IsAccepted}
use Rattle.word_archive.specs.History.{HasOne, IsClosed, IsHistory, IsUnused, entry}
use Rattle.word_archive.specs.Rule.{AreWordsOf, serial_word, shown_world}
use Rattle.word_archive.specs.Serials.{IsPublishedBelow, drawn, made_by, once_below, times}
use Rattle.word_archive.proofs.KnownPublished.{all_below, words_published}
use Rattle.word_archive.proofs.Moves.{lane_shown}
use Rattle.word_archive.proofs.SerialsDrawn.{less_at}

-- a serial that was drawn stands in the record of some lane
times_found : (x : ℕ) (xs : List ℕ) → 1 ≤ times x xs → (j : ℕ) × (slice_get xs j ≡ Some x)
times_found x [] le = absurd (omega arith)
times_found x (y ∷ ys) le =
    elim (cases_Bool (eqb y x)) [
      | inl is ↦ (0, ap Some (eqb-true y x is))
      | inr other ↦
          let t : times x (y ∷ ys) ≡ 0 + times x ys = ap (λ b. cond b 1 0 + times x ys) other in
          let r = times_found x ys (omega arith) in
          (suc r.0, r.1)
    ]

-- that was drawn at all
drawn_found : (x : ℕ) (rs : List Record) → 1 ≤ drawn x rs
    → (l : ℕ) × (r : Record) × (slice_get rs l ≡ Some r) × (j : ℕ)
    × (slice_get r.serials j ≡ Some x)
drawn_found x [] le = absurd (omega arith)
drawn_found x (r ∷ rs) le =
    elim (cases_lt 0 (times x r.serials)) [
      | inl here ↦
          let t = times_found x r.serials (omega arith) in
          (0, r, refl, t.0, t.1)
      | inr nowhere ↦
          let t = drawn_found x rs (omega arith) in
          (suc t.0, t.1, t.2, t.3, t.4)
    ]

-- a number below n counts once
once_one : (x n : ℕ) → x < n → once_below x n ≡ 1
once_one x n lt = grind (arith, nat_tests)

-- a variant at one of the first places is among the first
taken_has : (xs : List Variant) (n i : ℕ) (v : Variant) → i < n → slice_get xs i ≡ Some v
    → contains (take n xs) v ≡ true
taken_has xs zero i v lt e = absurd (omega arith)
taken_has [] (suc n) i v lt e = absurd (cc)
taken_has (x ∷ xs) (suc n) zero v lt e =
    or_left (same x v) _ (subst (λ y. same y v ≡ true) (sym (same_Some x v e)) (same-refl v))
taken_has (x ∷ xs) (suc n) (suc i) v lt e =
    or_right (same x v) _ (taken_has xs n i v (omega arith) e)

module _ (a : AcceptedPlan) (accepted : IsAccepted a) (words : List ℕ) (records : List Record)
    (stopped : Bool) (st : AreWordsOf a words records stopped) (history : List Publication)
    (told : IsHistory a records history) where
  -- what was published under a serial below x stands in the history
  in_history : (v : Variant) (x : ℕ) → IsPublishedBelow a records v x
      → HasOne history (λ g. (g.variant ≡ v) × (g.serial < x))
  in_history v x p =
      let h = told.all p.publisher p.place p.told p.there p.made in
      let is : h.output ≡ v = same_Some h.output v (sym h.variant ∙ p.output) in
      let serial : h.serial ≡ p.serial =
      same_Some h.serial p.serial (sym h.drawn_as ∙ p.drawn_as) in
      let below = p.below in
      (h.number, entry h.serial p.publisher h.output, h.stands, (is, omega arith))

  -- the words have each publication of the history
  has_publication : (v : Variant) → HasOne history (λ h. h.variant ≡ v)
      → has_bit (shown_world a words records).words v ≡ true
  has_publication v g =
      let u = a.universe in
      let h = g.1 in
      let o = told.each g.0 h g.2 in
      let outs = lane_outputs u (lane a.plan h.lane) in
      let here : contains (take (made_by a h.lane o.told.at) outs) h.variant ≡ true =
      taken_has outs (made_by a h.lane o.told.at) o.place h.variant o.made o.output in
      let at : world_lane (shown_world a words records) h.lane ≡ o.told.at =
      lane_shown a words records h.lane o.told o.there in
      let mine : contains (recorded u (lane a.plan h.lane)
      (world_lane (shown_world a words records) h.lane)) v ≡ true =
      subst (λ (y : LaneState × Variant). contains (recorded u (lane a.plan h.lane) y.0) y.1
      ≡ true)
      (λ i. (sym at i, g.3 i)) here in
      words_are_recorded u a.plan accepted.sound (shown_world a words records) st.reached v
      ∙ or_right (initial u v) _ (some_below-at (length a.plan)
      (λ m. contains (recorded u (lane a.plan m) (world_lane (shown_world a words records) m)) v)
      h.lane
      (omega (arith, slice_get_within records h.lane o.told o.there, st.lanes)) mine)

  -- what the words have is initial or stands in the history
  has_words : (v : Variant) → has_bit (shown_world a words records).words v ≡ true
      → (initial a.universe v ≡ true) ⊎ HasOne history (λ h. h.variant ≡ v)
  has_words v there =
      elim (words_published a accepted words records stopped st v there) [
        | inl start ↦ inl start
        | inr p ↦ let g = in_history v _ p in inr (g.0, g.1, g.2, g.3.0)
      ]

  -- they have the initial archive
  has_initial : (v : Variant) → initial a.universe v ≡ true
      → has_bit (shown_world a words records).words v ≡ true
  has_initial v start =
      words_are_recorded a.universe a.plan accepted.sound (shown_world a words records) st.reached v
      ∙ or_left (initial a.universe v) _ start

  -- a serial that was drawn was used, or is the last of its lane
  used_or_last : (x : ℕ) → x < serial_word a words
      → HasOne history (λ h. h.serial ≡ x) ⊎ IsUnused a records x
  used_or_last x lt =
      let once = st.serials.once x ∙ once_one x (serial_word a words) lt in
      let f = drawn_found x records (omega arith) in
      let l = f.0 in
      let r = f.1 in
      let owed = st.serials.owed l r f.2 in
      let most = owed.1 in
      let within = slice_get_within r.serials f.3 x f.4 in
      elim (cases_lt f.3 (made_by a l r.at)) [
        | inl made ↦
            let h = told.all l f.3 r f.2 made in
            inl (
              h.number,
              entry h.serial l h.output,
              h.stands,
              same_Some h.serial x (sym h.drawn_as ∙ f.4),
            )
        | inr last ↦
            let at : f.3 ≡ made_by a l r.at = omega arith in
            inr (
              l,
              r,
              f.2,
              omega arith,
              subst (λ j. slice_get r.serials j ≡ Some x) at f.4,
            )
      ]

  -- so all is told that IsClosed says
  pub is_closed : IsClosed a words records stopped history
  is_closed = record {
    stands = st;
    told = told;
    words_are = λ v. (
      has_words v,
      λ s. ⊎_elim (λ start. has_initial v start) (λ g. has_publication v g) s,
    );
    above = λ k i h o v here of known new.
        in_history v h.serial
        (st.serials.above h.lane i o.place h.serial o.told v o.there o.drawn_as of known new);
    below = λ k h here.
        let o = told.each k h here in
        less_at (serial_word a words) o.told.serials o.place h.serial
        (all_below a accepted words records stopped st h.lane o.told o.there) o.drawn_as;
    missing = used_or_last;
    halts = λ l r here saw. st.halts.set.0 (st.halts.sights l r here saw);
  }
