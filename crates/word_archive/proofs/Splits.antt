-- The next lane's seat is split false≢true the base seat.
use Rattle.std.proofs.Common.{Bool, List, Some, [], ap, arith, cond, eqb, inl, inr, length, refl, set, slice_get, subst, suc, sym, zero, ℕ, ⊎_elim, ◌++◌, ◌<◌, ◌∙◌, ◌∷◌, ◌≡◌, ◌≢◌, ◌≤◌, ◌⊎◌}
use Rattle.std.proofs.lemmas.Bool.{cases_eq, eq-eqb, ne_eqb, false≢true}
use mathlib.Core.Option.{some, some-injective, some-ne-none}
use lib.ListN.{get_elem?}
use Rattle.atomic_table.proofs.Lists.{at_set}
use Rattle.atomic_table.specs.Table.{Splits}
use Rattle.plan_model.specs.Plan.{lane}
use Rattle.archive_laws.specs.Records.{Record, blank}
use Rattle.plan_verifier.specs.Accepted.{AcceptedPlan}
use Rattle.word_archive.specs.Rule.{AllBelow, Entries, Fits, HasLane, KeepsRule, StandsIn}
use Rattle.word_archive.specs.Views.{SeatView, base_view, split_left, split_right}
use Rattle.word_archive.proofs.Placed.{last_here, stays_in, still_here}

-- who has a lane once it went to another seat
abbrev given : (ℕ → ℕ) → ℕ → ℕ → ℕ → ℕ
given owner l id k = cond (eqb k l) id (owner k)

-- the lane itself went over
given_here : (owner : ℕ → ℕ) (l id : ℕ) → given owner l id l ≡ id
given_here owner l id = ap (λ b. cond b id (owner l)) (eq-eqb l l refl)

-- and no other lane did
given_else : (owner : ℕ → ℕ) (l id k : ℕ) → k ≢ l → given owner l id k ≡ owner k
given_else owner l id k n = ap (λ b. cond b id (owner k)) (ne_eqb k l n)

-- the records of another view stay its own
entries_given : (owner : ℕ → ℕ) (records : List Record) (j l id : ℕ) (es : List (ℕ × Record))
    → ((k : ℕ) (r : Record) → owner k ≡ j → k ≢ l) → Entries owner records j es
    → Entries (given owner l id) records j es
entries_given owner records j l id [] n h = tt
entries_given owner records j l id (e ∷ es) n h = (
  (given_else owner l id e.0 (n e.0 e.1 h.0.0) ∙ h.0.0, h.0.1),
  entries_given owner records j l id es n h.1,
)

-- so do those of the lanes before it
entries_below : (owner : ℕ → ℕ) (records : List Record) (j l id : ℕ) (es : List (ℕ × Record))
    → AllBelow l es → Entries owner records j es → Entries (given owner l id) records j es
entries_below owner records j l id [] b h = tt
entries_below owner records j l id (e ∷ es) b h =
    let lt = b.0 in (
      (given_else owner l id e.0 (λ q. omega arith) ∙ h.0.0, h.0.1),
      entries_below owner records j l id es b.1 h.1,
    )

-- lanes below n are below the next number
below_more : (n : ℕ) (es : List (ℕ × Record)) → AllBelow n es → AllBelow (suc n) es
below_more n [] h = tt
below_more n (e ∷ es) h = let lt = h.0 in (omega arith, below_more n es h.1)

-- the next lane's seat is split false≢true the base seat
pub splits : {S : Type 0} (p : AcceptedPlan) (id next : ℕ) (stopped : Bool)
    (mine : List (ℕ × Record)) → next < length p.plan
    → Splits {S = S} {V = SeatView} (KeepsRule p) id (base_view p next stopped mine)
    (split_left (base_view p next stopped mine)) (split_right (base_view p next stopped mine))
splits p id next stopped mine lt s h at =
    let v = base_view p next stopped mine in
    let fit = h.fits id v at in
    let spare = fit.spare refl in
    let inside : next < length h.records = omega (arith, h.stands.lanes) in
    let own = spare.3 next (omega arith) inside in
    let new = length (set s.views id (split_left v)) in
    record {
      records = h.records;
      owner = given h.owner next new;
      stopped = h.stopped;
      stands = h.stands;
      fits = λ j u e. ⊎_elim
          (λ (t : get_elem? (set s.views id (split_left v)) j ≡ some u). ⊎_elim
          (λ (q : (j ≡ id) × (split_left v ≡ u)). subst
          (λ (y : ℕ × SeatView). Fits p (given h.owner next new) h.records h.stopped y.0 y.1)
          (λ i. (sym q.0 i, q.1 i)) (base_fits fit spare new))
          (λ (q : (j ≢ id) × (get_elem? s.views j ≡ some u)). other_fits j u q.0 (h.fits j u q.1)
          own.0 new)
          (at_set s.views id j (split_left v) u t))
          (λ (t : (j ≡ new) × (split_right v ≡ u)). subst
          (λ (y : ℕ × SeatView). Fits p (given h.owner next new) h.records h.stopped y.0 y.1)
          (λ i. (sym t.0 i, t.1 i))
          (record {
            entries = ((given_here h.owner next new, own.1), tt);
            spare = λ b. absurd (false≢true b);
            first = λ b. absurd (false≢true b);
          }))
          (at_end (set s.views id (split_left v)) (split_right v) u j e);
      placed = λ l in_plan. placed_at new l (h.placed l in_plan) refl;
    }
  where
    base_fits : (fit : Fits p h.owner h.records h.stopped id (base_view p next stopped mine))
        → ((base_view p next stopped mine).about ≡ p) × (stopped ≡ h.stopped)
        × AllBelow next mine × ((l : ℕ) → next ≤ l → l < length h.records
        → (h.owner l ≡ id) × (slice_get h.records l ≡ Some (blank p.universe (lane p.plan l))))
        → (new : ℕ) → Fits p (given h.owner next new) h.records h.stopped id
        (split_left (base_view p next stopped mine))
    base_fits fit spare new = record {
      entries = entries_below h.owner h.records id next new mine spare.2 fit.entries;
      spare = λ _. (
        refl,
        spare.1,
        below_more next mine spare.2,
        λ l ge lt. let g =
            spare.3 l (omega arith) lt in
            (given_else h.owner next new l (λ q. omega arith) ∙ g.0, g.1),
      );
      first = fit.first;
    }

    other_fits : (j : ℕ) (u : SeatView) → j ≢ id → Fits p h.owner h.records h.stopped j u
        → h.owner next ≡ id → (new : ℕ) → Fits p (given h.owner next new) h.records h.stopped j u
    other_fits j u apart f own new = record {
      entries = entries_given h.owner h.records j next new u.mine
          (λ k r o q. apart (sym o ∙ (ap h.owner q ∙ own))) f.entries;
      spare = λ b. let s = f.spare b in (
        s.0,
        s.1,
        s.2,
        λ l ge lt. let g = s.3 l ge lt in (
          given_else h.owner next new l (λ q. apart (sym g.0 ∙ (ap h.owner q ∙ own)))
              ∙ g.0,
          g.1,
        ),
      );
      first = f.first;
    }

    -- a lane that was not split off yet is above the one that is
    left_has : (l : ℕ) → l ≢ next → HasLane l (base_view p next stopped mine)
        → HasLane l (split_left (base_view p next stopped mine))
    left_has l apart (inl among) = inl among
    left_has l apart (inr rest) = let ge = rest.1 in inr (refl, omega (arith, ge, apart))

    placed_at : (new l : ℕ) → StandsIn s.views (h.owner l) l
        → new ≡ length (set s.views id (split_left (base_view p next stopped mine)))
        → StandsIn (set s.views id (split_left (base_view p next stopped mine))
        ++ split_right (base_view p next stopped mine) ∷ []) (given h.owner next new l) l
    placed_at new l stood is =
        let v = base_view p next stopped mine in
        let vs = set s.views id (split_left v) in
        elim (cases_eq l next) [
          | inl same ↦ (
            split_right v,
            ap (get_elem? (vs ++ split_right v ∷ []))
                (ap (given h.owner next new) same ∙ (given_here h.owner next new ∙ is))
                ∙ last_here vs (split_right v),
            inl (inl (sym same)),
          )
          | inr apart ↦ let stands = stays_in s.views id v (split_left v) (h.owner l) l at
              (λ k has. left_has l apart has) stood in (
                stands.0,
                ap (get_elem? (vs ++ split_right v ∷ [])) (given_else h.owner next new l apart)
                    ∙ still_here vs (split_right v ∷ []) (h.owner l) stands.0 stands.1,
                stands.2,
              )
        ]

    at_end : (vs : List SeatView) (a u : SeatView) (j : ℕ) → get_elem? (vs ++ a ∷ []) j ≡ some u
        → (get_elem? vs j ≡ some u) ⊎ ((j ≡ length vs) × (a ≡ u))
    at_end [] a u zero e = inr (refl, some-injective _ _ e)
    at_end [] a u (suc j) e = absurd (some-ne-none u (sym e))
    at_end (w ∷ vs) a u zero e = inl e
    at_end (w ∷ vs) a u (suc j) e =
        ⊎_elim (λ t. inl t) (λ (t : (j ≡ length vs) × (a ≡ u)). inr (ap suc t.0, t.1))
        (at_end vs a u j e)

-- the same, where the base seat's view is known by an equation
pub splits_as : {S : Type 0} (p : AcceptedPlan) (id next : ℕ) (stopped : Bool)
    (mine : List (ℕ × Record)) (v : SeatView) → next < length p.plan
    → v ≡ base_view p next stopped mine
    → Splits {S = S} {V = SeatView} (KeepsRule p) id v (split_left v) (split_right v)
splits_as {S} p id next stopped mine v lt is =
    subst (λ (u : SeatView). Splits {S = S} {V = SeatView} (KeepsRule p) id u (split_left u)
    (split_right u)) (sym is) (splits p id next stopped mine lt)
