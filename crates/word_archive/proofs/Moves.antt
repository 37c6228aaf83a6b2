-- One lane's record changes, in its seat's view.
use Rattle.std.proofs.Common.{List, Some, [], ap, arith, inl, inr, length-set, set, slice_get, subst, suc, sym, zero, ℕ, ⊎_elim, ◌∙◌, ◌∷◌, ◌≡◌, ◌≢◌, ◌⊎◌}
use Rattle.std.proofs.lemmas.Bool.{cases_eq, false≢true}
use Rattle.std.proofs.lemmas.Option.{same_Some}
use mathlib.Core.Option.{some}
use lib.ListN.{get_elem?}
use Rattle.atomic_table.proofs.Lists.{at_set}
use Rattle.plan_model.specs.World.{world_lane}
use Rattle.archive_laws.specs.Records.{Record}
use Rattle.plan_verifier.specs.Accepted.{AcceptedPlan}
use Rattle.word_archive.specs.Rule.{AreWordsOf, Entries, Fits, Keeps, shown_world}
use Rattle.word_archive.specs.Views.{SeatView, lane_view}
use Rattle.word_archive.proofs.Lists.{get_set, get_set_other}
use Rattle.word_archive.proofs.Placed.{stays_in}

-- the records of a view that does not have the lane
entries_kept : (owner : ℕ → ℕ) (records : List Record) (id l : ℕ) (r : Record)
    (es : List (ℕ × Record)) → owner l ≢ id → Entries owner records id es
    → Entries owner (set records l r) id es
entries_kept owner records id l r [] n h = tt
entries_kept owner records id l r (e ∷ es) n h =
    let apart : e.0 ≢ l = λ q. n (sym (ap owner q) ∙ h.0.0) in (
      (h.0.0, get_set_other records l e.0 r apart ∙ h.0.1),
      entries_kept owner records id l r es n h.1,
    )

-- one lane's record changes, in its seat's view
pub lane_moves : (p : AcceptedPlan) (words words' : List ℕ) (views : List SeatView) (id l : ℕ)
    (r r' : Record) (h : Keeps p words views)
    → get_elem? views id ≡ some (lane_view p l r)
    → AreWordsOf p words' (set h.records l r') h.stopped
    → Keeps p words' (set views id (lane_view p l r'))
lane_moves p words words' views id l r r' h at stands =
    let w = lane_view p l r' in
    let fit = h.fits id (lane_view p l r) at in
    let owned = fit.entries.0.0 in
    let here = fit.entries.0.1 in
    record {
      records = set h.records l r';
      owner = h.owner;
      stopped = h.stopped;
      stands = stands;
      fits = λ j v e. ⊎_elim
          (λ (t : (j ≡ id) × (w ≡ v)). subst (λ (y : ℕ × SeatView). Fits p h.owner
          (set h.records l r') h.stopped y.0 y.1) (λ i. (sym t.0 i, t.1 i))
          (record {
            entries = ((owned, get_set h.records l r r' here), tt);
            spare = λ b. absurd (false≢true b);
            first = λ b. absurd (false≢true b);
          }))
          (λ (t : (j ≢ id) × (get_elem? views j ≡ some v)). other j v t.0 (h.fits j v t.1) owned)
          (at_set views id j w v e);
      placed = λ k lt. stays_in views id (lane_view p l r) w (h.owner k) k at (λ is has. has)
          (h.placed k (omega (arith, lt, length-set h.records l r')));
    }
  where
    other : (j : ℕ) (v : SeatView) → j ≢ id → Fits p h.owner h.records h.stopped j v
        → h.owner l ≡ id → Fits p h.owner (set h.records l r') h.stopped j v
    other j v apart f owned =
        let n : h.owner l ≢ j = λ q. apart (sym q ∙ owned) in
        record {
          entries = entries_kept h.owner h.records j l r' v.mine n f.entries;
          spare = λ b.
              let s = f.spare b in (
                s.0,
                s.1,
                s.2,
                λ k ge lt. let g =
                    s.3 k ge (omega (arith, length-set h.records l r')) in (
                      g.0,
                      get_set_other h.records l k r' (λ q. n (sym (ap h.owner q) ∙ g.0))
                          ∙ g.1,
                    ),
              );
          first = f.first;
        }

-- the record of a lane after one lane's changed
pub changed : (P : ℕ → Record → Type 0) (records : List Record) (l : ℕ) (r r' : Record)
    → slice_get records l ≡ Some r → P l r' → ((k : ℕ) (q : Record)
    → slice_get records k ≡ Some q → P k q)
    → (k : ℕ) (q : Record) → slice_get (set records l r') k ≡ Some q → P k q
changed P records l r r' here mine others k q e = go (cases_eq k l)
  where
    go : (k ≡ l) ⊎ (k ≢ l) → P k q
    go (inl is) =
        let g = get_set records l r r' here in
        let e' : slice_get (set records l r') l ≡ Some q =
        ap (slice_get (set records l r')) (sym is) ∙ e in
        let same : r' ≡ q = cc in
        subst (λ (y : ℕ × Record). P y.0 y.1) (λ i. (sym is i, same i)) mine
    go (inr apart) = others k q (sym (get_set_other records l k r' apart) ∙ e)

-- a record is the one that stands there
pub same_record : (records : List Record) (l : ℕ) (q r : Record) → slice_get records l ≡ Some q
    → slice_get records l ≡ Some r → q ≡ r
same_record records l q r e f = same_Some q r (sym e ∙ f)

-- the lane of a record, as the world shows it
pub lane_shown : (a : AcceptedPlan) (words : List ℕ) (records : List Record) (l : ℕ) (r : Record)
    → slice_get records l ≡ Some r → world_lane (shown_world a words records) l ≡ r.at
lane_shown a words [] l r e = absurd (cc)
lane_shown a words (q ∷ rs) zero r e = let s : q ≡ r = cc in ap (λ (y : Record). y.at) s
lane_shown a words (q ∷ rs) (suc l) r e = lane_shown a words rs l r e
