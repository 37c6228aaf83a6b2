-- Runs in which lanes come to the archive in the same order.
use Rattle.std.proofs.Common.{◌≡◌, ℕ, Bool, true, false, List, [], ◌∷◌, refl, sym, ap, subst, ◌∙◌}
use Rattle.std.proofs.lemmas.Bool.{cond-true, cond-false}
use Rattle.std.proofs.lemmas.List.{length-map}
use Rattle.drive_replay.proofs.Onward.{Both, Same, event_step, quiet_step, swap}
use Rattle.drive_replay.specs.Orders.{Event, OrderDecides, comes_to_archive, event, events, lanes_of}
use Rattle.farm_core.specs.Farm.{Farm}
use Rattle.farm_model.specs.Universe.{Universe}
use Rattle.plan_model.specs.Common.{Plan, Moved, Run, State, lane_state, start, step, LaneState, start_lane}

no_more : (l : ℕ) (ls : List ℕ) → [] ≡ l ∷ ls → ⊥
no_more l ls e = cc

same_head : (l k : ℕ) (ls ks : List ℕ) → l ∷ ls ≡ k ∷ ks → l ≡ k
same_head l k ls ks e = cc

same_tail : (l k : ℕ) (ls ks : List ℕ) → l ∷ ls ≡ k ∷ ks → ls ≡ ks
same_tail l k ls ks e = cc

module _ (u : Universe) (p : Plan) where
  -- the first turn of a run comes to the archive, or not
  events_on : (l : ℕ) (ls : List ℕ) (s t : State) (run : Run u p s (l ∷ ls) t)
      → comes_to_archive p s l ≡ true
      → events u p (l ∷ ls) s t run ≡ event l (lane_state run.0 l) ∷ events u p ls run.0 t run.2
  events_on l ls s t run on =
      cond-true (comes_to_archive p s l)
      (event l (lane_state run.0 l) ∷ events u p ls run.0 t run.2) (events u p ls run.0 t run.2) on

  events_off : (l : ℕ) (ls : List ℕ) (s t : State) (run : Run u p s (l ∷ ls) t)
      → comes_to_archive p s l ≡ false
      → events u p (l ∷ ls) s t run ≡ events u p ls run.0 t run.2
  events_off l ls s t run off =
      cond-false (comes_to_archive p s l)
      (event l (lane_state run.0 l) ∷ events u p ls run.0 t run.2) (events u p ls run.0 t run.2) off

  none_by : (s : State) (k : ℕ) (ks : List ℕ) (t y : State) (run : Run u p t (k ∷ ks) y)
      → Same u p s t → [] ≡ lanes_of (events u p (k ∷ ks) t y run)
      → (Same u p s run.0 → [] ≡ lanes_of (events u p ks run.0 y run.2)
      → ([] ≡ events u p ks run.0 y run.2) × (s.published ≡ y.published))
      → (b : Bool) → comes_to_archive p t k ≡ b
      → ([] ≡ events u p (k ∷ ks) t y run) × (s.published ≡ y.published)
  none_by s k ks t y run is e more true on =
      absurd (no_more k (lanes_of (events u p ks run.0 y run.2))
      (e ∙ ap lanes_of (events_on k ks t y run on)))
  none_by s k ks t y run is e more false off =
      let rest = more
      (swap u p run.0 s (quiet_step u p t s run.0 k (swap u p s t is) off run.1))
      (e ∙ ap lanes_of (events_off k ks t y run off)) in
      (rest.0 ∙ sym (events_off k ks t y run off), rest.1)

  -- a run without events, from where another one stands
  none : (s : State) (ks : List ℕ) (t y : State) (run : Run u p t ks y) → Same u p s t
      → [] ≡ lanes_of (events u p ks t y run)
      → ([] ≡ events u p ks t y run) × (s.published ≡ y.published)
  none s [] t y run is e = (refl, is.published ∙ ap (λ (x : State). x.published) run)
  none s (k ∷ ks) t y run is e =
      none_by s k ks t y run is e (λ same rest. none s ks run.0 y run.2 same rest)
      (comes_to_archive p t k) refl

  -- the next event of a run is of this lane
  record Met (s : State) (l : ℕ) (ks : List ℕ) (t y : State) (run : Run u p t ks y) : Type 0 where
    before : State
    behind : State
    left : List ℕ
    rest : Run u p behind left y
    same : Same u p s before
    on : comes_to_archive p before l ≡ true
    moved : step u p before l ≡ Moved behind
    are : events u p ks t y run ≡ event l (lane_state behind l) ∷ events u p left behind y rest

  met_here : (s : State) (l k : ℕ) (ks : List ℕ) (t y : State) (run : Run u p t (k ∷ ks) y)
      → Same u p s t → comes_to_archive p t k ≡ true → k ≡ l → Met s l (k ∷ ks) t y run
  met_here s l k ks t y run is on same_lane =
      subst (λ j. Met s j (k ∷ ks) t y run) same_lane (record {
        before = t;
        behind = run.0;
        left = ks;
        rest = run.2;
        same = is;
        on = on;
        moved = run.1;
        are = events_on k ks t y run on;
      })

  met_later : (s : State) (l k : ℕ) (ks : List ℕ) (t y : State) (run : Run u p t (k ∷ ks) y)
      → comes_to_archive p t k ≡ false → Met s l ks run.0 y run.2 → Met s l (k ∷ ks) t y run
  met_later s l k ks t y run off met = record {
    before = met.before;
    behind = met.behind;
    left = met.left;
    rest = met.rest;
    same = met.same;
    on = met.on;
    moved = met.moved;
    are = events_off k ks t y run off ∙ met.are;
  }

  meet_by : (s : State) (l : ℕ) (more : List ℕ) (k : ℕ) (ks : List ℕ) (t y : State)
      (run : Run u p t (k ∷ ks) y) → Same u p s t
      → l ∷ more ≡ lanes_of (events u p (k ∷ ks) t y run)
      → (Same u p s run.0 → l ∷ more ≡ lanes_of (events u p ks run.0 y run.2)
      → Met s l ks run.0 y run.2)
      → (b : Bool) → comes_to_archive p t k ≡ b → Met s l (k ∷ ks) t y run
  meet_by s l more k ks t y run is e later true on =
      met_here s l k ks t y run is on
      (sym (same_head l k more (lanes_of (events u p ks run.0 y run.2))
      (e ∙ ap lanes_of (events_on k ks t y run on))))
  meet_by s l more k ks t y run is e later false off =
      met_later s l k ks t y run off (later
      (swap u p run.0 s (quiet_step u p t s run.0 k (swap u p s t is) off run.1))
      (e ∙ ap lanes_of (events_off k ks t y run off)))

  meet : (s : State) (l : ℕ) (more ks : List ℕ) (t y : State) (run : Run u p t ks y)
      → Same u p s t → l ∷ more ≡ lanes_of (events u p ks t y run) → Met s l ks t y run
  meet s l more [] t y run is e = absurd (no_more l more (sym e))
  meet s l more (k ∷ ks) t y run is e =
      meet_by s l more k ks t y run is e
      (λ same rest. meet s l more ks run.0 y run.2 same rest) (comes_to_archive p t k) refl

  -- two runs from states that are the same but for such turns
  abbrev AreAlike : (ls ks : List ℕ) (s t x y : State) → Run u p s ls x → Run u p t ks y → Type 0
  AreAlike ls ks s t x y one other =
      lanes_of (events u p ls s x one) ≡ lanes_of (events u p ks t y other)
      → (events u p ls s x one ≡ events u p ks t y other) × (x.published ≡ y.published)

  alike_on : (l : ℕ) (ls ks : List ℕ) (s t x y : State) (one : Run u p s (l ∷ ls) x)
      (other : Run u p t ks y) → comes_to_archive p s l ≡ true → (met : Met s l ks t y other)
      → (Same u p one.0 met.behind → AreAlike ls met.left one.0 met.behind x y one.2 met.rest)
      → AreAlike (l ∷ ls) ks s t x y one other
  alike_on l ls ks s t x y one other on met later e =
      let both = event_step u p s met.before one.0 met.behind l met.same on met.on one.1 met.moved in
      let rest = later both.same
      (same_tail l l (lanes_of (events u p ls one.0 x one.2))
      (lanes_of (events u p met.left met.behind y met.rest))
      (sym (ap lanes_of (events_on l ls s x one on)) ∙ e ∙ ap lanes_of met.are)) in (
        events_on l ls s x one on
            ∙ ap (λ (st : LaneState). event l st ∷ events u p ls one.0 x one.2) both.behind
            ∙ ap (λ (es : List Event). event l (lane_state met.behind l) ∷ es) rest.0
            ∙ sym met.are,
        rest.1,
      )

  alike_by : (l : ℕ) (ls ks : List ℕ) (s t x y : State) (one : Run u p s (l ∷ ls) x)
      (other : Run u p t ks y) → Same u p s t
      → ((js : List ℕ) (z : State) (rest : Run u p z js y) → Same u p one.0 z
      → AreAlike ls js one.0 z x y one.2 rest)
      → (b : Bool) → comes_to_archive p s l ≡ b → AreAlike (l ∷ ls) ks s t x y one other
  alike_by l ls ks s t x y one other is later true on e =
      let met = meet s l (lanes_of (events u p ls one.0 x one.2)) ks t y other is
      (sym (ap lanes_of (events_on l ls s x one on)) ∙ e) in
      alike_on l ls ks s t x y one other on met
      (λ same. later met.left met.behind met.rest same) e
  alike_by l ls ks s t x y one other is later false off e =
      let rest = later ks t other (quiet_step u p s t one.0 l is off one.1)
      (sym (ap lanes_of (events_off l ls s x one off)) ∙ e) in
      (events_off l ls s x one off ∙ rest.0, rest.1)

  pub alike : (ls ks : List ℕ) (s t x y : State) (one : Run u p s ls x) (other : Run u p t ks y)
      → Same u p s t → AreAlike ls ks s t x y one other
  alike [] ks s t x y one other is e =
      let end = none s ks t y other is e in
      (end.0, subst (λ (z : State). z.published ≡ y.published) one end.1)
  alike (l ∷ ls) ks s t x y one other is e =
      alike_by l ls ks s t x y one other is
      (λ js z rest same. alike ls js one.0 z x y one.2 rest same) (comes_to_archive p s l) refl e

  -- each state is where it is
  at_start : Same u p (start u p) (start u p)
  at_start = record {
    long = (length-map p (start_lane u), length-map p (start_lane u));
    published = refl;
    lanes = λ l lt. (lane_state (start u p) l, 0, 0, refl, refl);
  }

  pub order_decides : (ls ks : List ℕ) (s t : State) (one : Run u p (start u p) ls s)
      (other : Run u p (start u p) ks t)
      → lanes_of (events u p ls (start u p) s one) ≡ lanes_of (events u p ks (start u p) t other)
      → (events u p ls (start u p) s one ≡ events u p ks (start u p) t other)
      × (s.published ≡ t.published)
  order_decides ls ks s t one other e =
      alike ls ks (start u p) (start u p) s t one other at_start e

pub order_decides_picks : (f : Farm) → OrderDecides f
order_decides_picks f ls ks t one other e =
    order_decides f.universe f.plan.lanes ls ks f.state t one other e
