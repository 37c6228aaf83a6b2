-- The base seat takes another in.
use Rattle.std.proofs.Common.{Bool, List, Some, [], ap, cond, eqb, inl, inr, length, refl, set, slice_get, subst, sym, true, ℕ, ⊎_elim, ◌++◌, ◌<◌, ◌∙◌, ◌∷◌, ◌≡◌, ◌≢◌, ◌≤◌, ◌⊎◌}
use Rattle.std.proofs.lemmas.Option.{slice_get_within}
use Rattle.std.proofs.lemmas.Bool.{cases_eq, cases_lt, eq-eqb, ne_eqb, false≢true}
use mathlib.Core.Option.{some, some-injective}
use lib.ListN.{get_elem?}
use Rattle.atomic_table.proofs.Lists.{at_set}
use Rattle.atomic_table.specs.Table.{Joins}
use Rattle.plan_model.specs.Plan.{lane}
use Rattle.archive_laws.specs.Records.{Record, blank}
use Rattle.plan_verifier.specs.Accepted.{AcceptedPlan}
use Rattle.word_archive.specs.Rule.{AllBelow, Entries, Fits, HasLane, KeepsRule, StandsIn}
use Rattle.word_archive.specs.Views.{SeatView, base_view, joined_view, spent}
use Rattle.word_archive.proofs.Placed.{among_first, among_second, put_else, put_here, stays_in}

-- who has the lanes of a seat once they went to another
abbrev taken_over : (ℕ → ℕ) → ℕ → ℕ → ℕ → ℕ
taken_over owner other id k = cond (eqb (owner k) other) id (owner k)

-- a lane of the other seat went over
over_here : (owner : ℕ → ℕ) (other id k : ℕ) → owner k ≡ other → taken_over owner other id k ≡ id
over_here owner other id k e = ap (λ b. cond b id (owner k)) (eq-eqb (owner k) other e)

-- and no other lane did
over_else : (owner : ℕ → ℕ) (other id k : ℕ) → owner k ≢ other
    → taken_over owner other id k ≡ owner k
over_else owner other id k n = ap (λ b. cond b id (owner k)) (ne_eqb (owner k) other n)

-- the records of a third view stay its own
entries_stay : (owner : ℕ → ℕ) (records : List Record) (j other id : ℕ) (es : List (ℕ × Record))
    → j ≢ other → Entries owner records j es → Entries (taken_over owner other id) records j es
entries_stay owner records j other id [] n h = tt
entries_stay owner records j other id (e ∷ es) n h = (
  (over_else owner other id e.0 (λ q. n (sym h.0.0 ∙ q)) ∙ h.0.0, h.0.1),
  entries_stay owner records j other id es n h.1,
)

-- those of the other seat are the taker's
entries_over : (owner : ℕ → ℕ) (records : List Record) (other id : ℕ) (es : List (ℕ × Record))
    → Entries owner records other es → Entries (taken_over owner other id) records id es
entries_over owner records other id [] h = tt
entries_over owner records other id (e ∷ es) h =
    ((over_here owner other id e.0 h.0.0, h.0.1), entries_over owner records other id es h.1)

-- two lists of records of one view
entries_both : (owner : ℕ → ℕ) (records : List Record) (id : ℕ) (es fs : List (ℕ × Record))
    → Entries owner records id es → Entries owner records id fs
    → Entries owner records id (es ++ fs)
entries_both owner records id [] fs h k = k
entries_both owner records id (e ∷ es) fs h k = (h.0, entries_both owner records id es fs h.1 k)

-- two lists of lanes below n
below_both : (n : ℕ) (es fs : List (ℕ × Record)) → AllBelow n es → AllBelow n fs
    → AllBelow n (es ++ fs)
below_both n [] fs h k = k
below_both n (e ∷ es) fs h k = (h.0, below_both n es fs h.1 k)

-- another seat's lanes were split false≢true the base seat
all_split : (owner : ℕ → ℕ) (records : List Record) (n id other : ℕ) (es : List (ℕ × Record))
    → other ≢ id → ((l : ℕ) → n ≤ l → l < length records → owner l ≡ id)
    → Entries owner records other es → AllBelow n es
all_split owner records n id other [] apart own h = tt
all_split owner records n id other (e ∷ es) apart own h =
    (below (cases_lt e.0 n), all_split owner records n id other es apart own h.1)
  where
    below : (e.0 < n) ⊎ (n ≤ e.0) → e.0 < n
    below (inl lt) = lt
    below (inr ge) =
        absurd (apart (sym h.0.0 ∙ own e.0 ge (slice_get_within records e.0 e.1 h.0.1)))

-- the base seat takes another in
pub joins : {S : Type 0} (p : AcceptedPlan) (id next : ℕ) (stopped : Bool)
    (mine : List (ℕ × Record)) (other : ℕ) (w : SeatView)
    → Joins {S = S} {V = SeatView} (KeepsRule p) id (base_view p next stopped mine) other w
    (joined_view (base_view p next stopped mine) w) spent
joins p id next stopped mine other w s h at apart there =
    let v = base_view p next stopped mine in
    let both = joined_view v w in
    let fit = h.fits id v at in
    let spare = fit.spare refl in
    let theirs : Fits p h.owner h.records h.stopped other w = ⊎_elim
    (λ (t : (other ≡ id) × (both ≡ w)). absurd (apart t.0))
    (λ (t : (other ≢ id) × (get_elem? s.views other ≡ some w)). h.fits other w t.1)
    (at_set s.views id other both w there) in
    record {
      records = h.records;
      owner = taken_over h.owner other id;
      stopped = h.stopped;
      stands = h.stands;
      fits = λ j u e. ⊎_elim
          (λ (t : (j ≡ other) × (spent ≡ u)). subst
          (λ (y : ℕ × SeatView). Fits p (taken_over h.owner other id) h.records h.stopped y.0
          y.1) (λ i. (sym t.0 i, t.1 i)) (record
          { entries = tt; spare = λ b. absurd (false≢true b); first = λ b. absurd (false≢true b) }))
          (λ (t : (j ≢ other) × (get_elem? (set s.views id both) j ≡ some u)). ⊎_elim
          (λ (q : (j ≡ id) × (both ≡ u)). subst
          (λ (y : ℕ × SeatView). Fits p (taken_over h.owner other id) h.records h.stopped y.0
          y.1) (λ i. (sym q.0 i, q.1 i)) (base_fits fit.entries spare (fit.first refl)
          theirs.entries))
          (λ (q : (j ≢ id) × (get_elem? s.views j ≡ some u)). other_fits j u t.0 (h.fits j u q.1))
          (at_set s.views id j both u t.1))
          (at_set (set s.views id both) other j spent u e);
      placed = λ l in_plan. placed_at l (h.placed l in_plan) (λ b. apart (theirs.first b
          ∙ sym (fit.first refl)));
    }
  where
    base_fits : Entries h.owner h.records id mine
        → (p ≡ p) × (stopped ≡ h.stopped) × AllBelow next mine
        × ((l : ℕ) → next ≤ l → l < length h.records
        → (h.owner l ≡ id) × (slice_get h.records l ≡ Some (blank p.universe (lane p.plan l))))
        → id ≡ 0 → Entries h.owner h.records other w.mine
        → Fits p (taken_over h.owner other id) h.records h.stopped id
        (joined_view (base_view p next stopped mine) w)
    base_fits own spare zeroth theirs = record {
      entries = entries_both (taken_over h.owner other id) h.records id mine w.mine
          (entries_stay h.owner h.records id other id mine (λ q. apart (sym q)) own)
          (entries_over h.owner h.records other id w.mine theirs);
      spare = λ _. (
        refl,
        spare.1,
        below_both next mine w.mine spare.2 (all_split h.owner h.records next id other w.mine
            apart (λ l ge lt. (spare.3 l ge lt).0) theirs),
        λ l ge lt. let g = spare.3 l ge lt in
            (over_else h.owner other id l (λ q. apart (sym q ∙ g.0)) ∙ g.0, g.1),
      );
      first = λ _. zeroth;
    }

    both_has : (l : ℕ) → HasLane l (base_view p next stopped mine)
        → HasLane l (joined_view (base_view p next stopped mine) w)
    both_has l (inl among) = inl (among_first l mine w.mine among)
    both_has l (inr rest) = inr rest

    theirs_has : (l : ℕ) → (w.base ≡ true → ⊥) → HasLane l w
        → HasLane l (joined_view (base_view p next stopped mine) w)
    theirs_has l no_base (inl among) = inl (among_second l mine w.mine among)
    theirs_has l no_base (inr rest) = absurd (no_base rest.0)

    placed_at : (l : ℕ) → StandsIn s.views (h.owner l) l → (w.base ≡ true → ⊥)
        → StandsIn (set (set s.views id (joined_view (base_view p next stopped mine) w)) other
        spent) (taken_over h.owner other id l) l
    placed_at l stood no_base =
        let v = base_view p next stopped mine in
        let both = joined_view v w in
        let vs = set s.views id both in
        elim (cases_eq (h.owner l) other) [
          | inl is ↦
              let same = some-injective stood.0 w (sym stood.1 ∙ (ap (get_elem? s.views) is
              ∙ (sym (put_else s.views id other both apart) ∙ there))) in (
                both,
                ap (get_elem? (set vs other spent)) (over_here h.owner other id l is)
                    ∙ (put_else vs other id spent (λ q. apart (sym q))
                    ∙ put_here s.views id v both at),
                theirs_has l no_base (subst (HasLane l) same stood.2),
              )
          | inr n ↦
              let stands = stays_in vs other w spent (h.owner l) l there
              (λ is has. absurd (n is))
              (stays_in s.views id v both (h.owner l) l at (λ is has. both_has l has) stood) in (
                stands.0,
                ap (get_elem? (set vs other spent)) (over_else h.owner other id l n) ∙ stands.1,
                stands.2,
              )
        ]

    other_fits : (j : ℕ) (u : SeatView) → j ≢ other → Fits p h.owner h.records h.stopped j u
        → Fits p (taken_over h.owner other id) h.records h.stopped j u
    other_fits j u n f = record {
      entries = entries_stay h.owner h.records j other id u.mine n f.entries;
      spare = λ b. let t = f.spare b in (
        t.0,
        t.1,
        t.2,
        λ l ge lt. let g = t.3 l ge lt in
            (over_else h.owner other id l (λ q. n (sym g.0 ∙ q)) ∙ g.0, g.1),
      );
      first = f.first;
    }

-- the same, where the base seat's view is known by an equation
pub joins_as : {S : Type 0} (p : AcceptedPlan) (id next : ℕ) (stopped : Bool)
    (mine : List (ℕ × Record)) (other : ℕ) (v w : SeatView) → v ≡ base_view p next stopped mine
    → Joins {S = S} {V = SeatView} (KeepsRule p) id v other w (joined_view v w) spent
joins_as {S} p id next stopped mine other v w is =
    subst (λ (u : SeatView). Joins {S = S} {V = SeatView} (KeepsRule p) id u other w
    (joined_view u w)
    spent) (sym is) (joins p id next stopped mine other w)
