-- A halt by a lane's seat, and a look at the halt word.
use Rattle.std.proofs.Common.{[], ap, arith, bit_or, get_or, inr, length-set, refl, set, subst, sym, true, ℕ, ⊎_elim, ◌+◌, ◌<◌, ◌∙◌, ◌≡◌}
use Rattle.std.specs.Int.{bit_at}
use Rattle.std.specs.Prelude.{slice_index}
use mathlib.Core.Option.{none}
use Rattle.atomic_table.specs.Table.{Allows, Me, keeps, step}
use Rattle.farm_model.specs.Packages.{names}
use Rattle.archive_laws.specs.Bounds.{IsWithinBits}
use Rattle.archive_laws.specs.Records.{Record, after_halt, after_look}
use Rattle.plan_verifier.specs.Accepted.{AcceptedPlan, IsAccepted}
use Rattle.word_archive.specs.Rule.{AreWordsOf, Keeps, KeepsRule, halt_word, serial_word}
use Rattle.word_archive.specs.Serials.{IsSerials}
use Rattle.word_archive.specs.Steps.{Halted, Looked}
use Rattle.word_archive.specs.Views.{SeatView, lane_view}
use Rattle.word_archive.proofs.HaltWord.{halts_stay, is_set, other_words, reached_after, same_world, saw_true, words_after}
use Rattle.word_archive.proofs.Lists.{get_set, set_index}
use Rattle.word_archive.proofs.Moves.{changed, lane_moves}
use Rattle.word_archive.proofs.Records.{record_holds}
use Rattle.word_archive.proofs.SerialsKept.{serials_stay}

-- a look at the halt word
pub looks : {S : Type 0} (a : AcceptedPlan) (slots id l : ℕ) (r : Record) → IsAccepted a
    → Allows {S = S} {V = SeatView} (KeepsRule a) slots id (lane_view a l r, [])
    (names a.universe + 1)
    (λ x. x) (Looked (step slots (names a.universe + 1) 0 0 none) (lane_view a l r, []))
looks a slots id l r accepted s h homes at small =
    let m = names a.universe in
    let found = get_or s.words (m + 1) 0 in
    let r' = after_look found r in
    let here = (h.fits id (lane_view a l r) at).entries.0.1 in
    let st = h.stands in
    let stands : AreWordsOf a s.words (set h.records l r') h.stopped = record {
      long = st.long;
      lanes = length-set h.records l r' ∙ st.lanes;
      loads = changed (λ k q. (n : ℕ) → n < m
          → IsWithinBits (slice_index q.loaded n) (slice_index s.words n)) h.records l r r' here
          (st.loads l r here) st.loads;
      serials = serials_stay a (serial_word a s.words) h.records l r r' st.serials here refl
          (st.serials.owed l r here) (omega arith);
      halts = halts_stay (halt_word a s.words) h.records h.stopped l r r' st.halts here refl
          (λ t. saw_true r.saw found t (st.halts.sights l r here));
      reached = same_world a s.words h.records l r r' here refl st.reached;
    } in
    let kept = lane_moves a s.words s.words s.views id l r r' h at stands in (
      lane_view a l r',
      keeps,
      tt,
      subst (λ ws. Keeps a ws (set s.views id (lane_view a l r')))
          (sym (set_index s.words (m + 1)))
          kept,
      (
        (
          refl,
          record_holds a accepted s.words (set h.records l r') h.stopped stands l r'
              (get_set h.records l r r' here),
        ),
        λ q. ⊎_elim (λ (t : r.halted ≡ true). st.halts.set.1 (inr (l, r, here, t)))
            (λ (t : r.saw ≡ true). st.halts.sights l r here t) q,
      ),
    )

-- the halt word set by a lane's seat
pub halts_one : {S : Type 0} (a : AcceptedPlan) (slots id l : ℕ) (r : Record) → IsAccepted a
    → Allows {S = S} {V = SeatView} (KeepsRule a) slots id (lane_view a l r, [])
    (names a.universe + 1)
    (λ x. bit_or x 1) (Halted (step slots (names a.universe + 1) 1 0 none) (lane_view a l r, []))
halts_one a slots id l r accepted s h homes at small =
    let m = names a.universe in
    let r' = after_halt r in
    let here = (h.fits id (lane_view a l r) at).entries.0.1 in
    let st = h.stands in
    let now = is_set a s.words h.records h.stopped st in
    let other = other_words a s.words h.records h.stopped st in
    let words' = words_after a s.words h.records h.stopped st in
    let stands : AreWordsOf a words' (set h.records l r') h.stopped = record {
      long = length-set s.words (m + 1) _ ∙ st.long;
      lanes = length-set h.records l r' ∙ st.lanes;
      loads = changed (λ k q. (n : ℕ) → n < m
          → IsWithinBits (slice_index q.loaded n) (slice_index words' n)) h.records l r r' here
          (λ n lt b one. ap (λ x. bit_at x b) (other n (omega arith))
          ∙ st.loads l r here n lt b one)
          (λ k q e n lt b one. ap (λ x. bit_at x b) (other n (omega arith))
          ∙ st.loads k q e n lt b one);
      serials = subst (λ x. IsSerials a x (set h.records l r')) (sym (other m (omega arith)))
          (serials_stay a (serial_word a s.words) h.records l r r' st.serials here refl
          (st.serials.owed l r here) (omega arith));
      halts = record {
        set = ((λ ne. inr (l, r', get_set h.records l r r' here, refl)), (λ _. now));
        sights = λ k q e t. now;
      };
      reached = reached_after a s.words h.records h.stopped st (set h.records l r')
          (same_world a s.words h.records l r r' here refl st.reached);
    } in (
      lane_view a l r',
      keeps,
      tt,
      lane_moves a s.words words' s.views id l r r' h at stands,
      (
        refl,
        record_holds a accepted words' (set h.records l r') h.stopped stands l r'
            (get_set h.records l r r' here),
      ),
    )

-- the same look, where the seat and the word are known by equations
pub looks_as : {S : Type 0} (a : AcceptedPlan) (slots id l n : ℕ) (r : Record)
    (me : Me S SeatView)
    → IsAccepted a → n ≡ names a.universe + 1 → me ≡ (lane_view a l r, [])
    → Allows {S = S} {V = SeatView} (KeepsRule a) slots id me n (λ x. x)
    (Looked (step slots n 0 0 none) me)
looks_as {S} a slots id l n r me accepted at is =
    subst (λ (m : Me S SeatView × ℕ). Allows {S = S} {V = SeatView} (KeepsRule a) slots id m.0 m.1
    (λ x. x)
    (Looked (step slots m.1 0 0 none) m.0)) (λ i. (sym is i, sym at i))
    (looks a slots id l r accepted)

-- and the same halt
pub halts_as : {S : Type 0} (a : AcceptedPlan) (slots id l n : ℕ) (r : Record)
    (me : Me S SeatView)
    → IsAccepted a → n ≡ names a.universe + 1 → me ≡ (lane_view a l r, [])
    → Allows {S = S} {V = SeatView} (KeepsRule a) slots id me n (λ x. bit_or x 1)
    (Halted (step slots n 1 0 none) me)
halts_as {S} a slots id l n r me accepted at is =
    subst (λ (m : Me S SeatView × ℕ). Allows {S = S} {V = SeatView} (KeepsRule a) slots id m.0 m.1
    (λ x. bit_or x 1) (Halted (step slots m.1 1 0 none) m.0)) (λ i. (sym is i, sym at i))
    (halts_one a slots id l r accepted)
