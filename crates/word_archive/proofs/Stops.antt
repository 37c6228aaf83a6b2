-- A halt by the base seat.
use Rattle.std.proofs.Common.{Bool, List, [], ap, arith, bit_or, inl, length-set, refl, set, subst, sym, true, ℕ, ⊎_elim, ◌+◌, ◌∙◌, ◌≡◌, ◌≢◌}
use Rattle.std.specs.Int.{bit_at}
use mathlib.Core.Option.{none, some}
use lib.ListN.{get_elem?}
use Rattle.atomic_table.proofs.Lists.{at_set}
use Rattle.atomic_table.specs.Table.{Allows, Me, keeps, step}
use Rattle.farm_model.specs.Packages.{names}
use Rattle.archive_laws.specs.Records.{Record}
use Rattle.plan_verifier.specs.Accepted.{AcceptedPlan}
use Rattle.word_archive.specs.Rule.{AreWordsOf, Fits, Keeps, KeepsRule}
use Rattle.word_archive.specs.Serials.{IsSerials}
use Rattle.word_archive.specs.Steps.{Stopped}
use Rattle.word_archive.specs.Views.{SeatView, base_view}
use Rattle.word_archive.proofs.Placed.{stays_in}
use Rattle.word_archive.proofs.HaltWord.{is_set, other_words, reached_after, words_after}

-- the halt word set by the base seat
pub stops_one : {S : Type 0} (a : AcceptedPlan) (slots id next : ℕ) (stopped : Bool)
    (mine : List (ℕ × Record))
    → Allows {S = S} {V = SeatView} (KeepsRule a) slots id (base_view a next stopped mine, [])
    (names a.universe + 1) (λ x. bit_or x 1)
    (Stopped (step slots (names a.universe + 1) 1 0 none) (base_view a next stopped mine, []))
stops_one a slots id next stopped mine s h homes at small =
    let m = names a.universe in
    let st = h.stands in
    let now = is_set a s.words h.records h.stopped st in
    let other = other_words a s.words h.records h.stopped st in
    let words' = words_after a s.words h.records h.stopped st in
    let w = base_view a next true mine in
    let fit = h.fits id (base_view a next stopped mine) at in
    let stands : AreWordsOf a words' h.records true = record {
      long = length-set s.words (m + 1) _ ∙ st.long;
      lanes = st.lanes;
      loads = λ k q e n lt b one. ap (λ x. bit_at x b) (other n (omega arith))
          ∙ st.loads k q e n lt b one;
      serials = subst (λ x. IsSerials a x h.records) (sym (other m (omega arith))) st.serials;
      halts = record { set = ((λ ne. inl refl), (λ _. now)); sights = λ k q e t. now };
      reached = reached_after a s.words h.records h.stopped st h.records st.reached;
    } in
    let kept : Keeps a words' (set s.views id w) = record {
      records = h.records;
      owner = h.owner;
      stopped = true;
      stands = stands;
      fits = λ j v e. ⊎_elim
          (λ (t : (j ≡ id) × (w ≡ v)). subst (λ (y : ℕ × SeatView). Fits a h.owner h.records true
          y.0
          y.1) (λ i. (sym t.0 i, t.1 i)) (base_fits fit))
          (λ (t : (j ≢ id) × (get_elem? s.views j ≡ some v)). other_fits j v t.0
          (h.fits j v t.1) (fit.first refl))
          (at_set s.views id j w v e);
      placed = λ k lt. stays_in s.views id (base_view a next stopped mine) w (h.owner k) k at
          (λ is has. has) (h.placed k lt);
    } in
    (w, keeps, tt, kept, refl)
  where
    base_fits : Fits a h.owner h.records h.stopped id (base_view a next stopped mine)
        → Fits a h.owner h.records true id (base_view a next true mine)
    base_fits fit =
        let b = fit.spare refl in
        record {
          entries = fit.entries;
          spare = λ _. (refl, refl, b.2, b.3);
          first = fit.first;
        }

    other_fits : (j : ℕ) (v : SeatView) → j ≢ id → Fits a h.owner h.records h.stopped j v → id ≡ 0
        → Fits a h.owner h.records true j v
    other_fits j v apart f zeroth = record {
      entries = f.entries;
      spare = λ b. absurd (apart (f.first b ∙ sym zeroth));
      first = f.first;
    }

-- the same, where the seat and the word are known by equations
pub stops_as : {S : Type 0} (a : AcceptedPlan) (slots id next n : ℕ) (stopped : Bool)
    (mine : List (ℕ × Record)) (me : Me S SeatView) → n ≡ names a.universe + 1
    → me ≡ (base_view a next stopped mine, [])
    → Allows {S = S} {V = SeatView} (KeepsRule a) slots id me n (λ x. bit_or x 1)
    (Stopped (step slots n 1 0 none) me)
stops_as {S} a slots id next n stopped mine me at is =
    subst (λ (m : Me S SeatView × ℕ). Allows {S = S} {V = SeatView} (KeepsRule a) slots id m.0 m.1
    (λ x. bit_or x 1) (Stopped (step slots m.1 1 0 none) m.0)) (λ i. (sym is i, sym at i))
    (stops_one a slots id next stopped mine)
