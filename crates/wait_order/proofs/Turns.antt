-- The lanes go on in turn.
use Rattle.std.proofs.Common.{◌≡◌, inl, inr, ℕ, ◌+◌, ◌-◌, ◌<◌, ◌≤◌, Bool, true, false, List, length, get_or, slice_set, refl, sym, ap, subst, ◌∙◌, arith, length-set, get_or-set_same, get_or-set_other}
use Rattle.std.proofs.lemmas.Bool.{cases_eq, eq-eqb, ne_eqb, false≢true}
use Rattle.std.proofs.lemmas.Option.{slice_get_read, get_or_from_slice_get}
use Rattle.farm_model.specs.Common.{sum_below, Universe, names}
use Rattle.farm_model.proofs.BelowLaws.{sum_below-change}
use Rattle.plan_model.specs.Plan.{Plan, lane}
use Rattle.wait_order.specs.declared.standing.Standing.{Standing}
use Rattle.wait_order.specs.Standing.{items_at, IsReached, with_left, IsHeldAt, IsStanding, IsAdvance, no_standing, place_of, AreStanding, left_of, ahead, all_ahead, IsRound}
use Rattle.wait_order.proofs.Boards.{reached_same}

module _ (p : Plan) (ats : List Standing) (l : ℕ) (next : Standing) (lt : l < length p)
    (long : length ats ≡ length p) where
  pub place-here : place_of (slice_set ats l next) l ≡ next.place
  place-here = ap (λ (at : Standing). at.place) (get_or-set_same ats l next no_standing (omega
      (arith, long)))

  pub place-other : (k : ℕ) → ((k ≡ l) → ⊥) → place_of (slice_set ats l next) k ≡ place_of ats k
  place-other k ne = ap (λ (at : Standing). at.place) (get_or-set_other ats l k next no_standing ne)

  sums : all_ahead p (slice_set ats l next) + ahead p ats l ≡ all_ahead p ats + (length
      (lane p l).instructions - next.place)
  unfolding all_ahead
  sums =
      let change = sum_below-change (length p) l (ahead p (slice_set ats l next)) (ahead p ats) lt
      (λ k k_lt ne. ap (λ i. length (lane p k).instructions - i) (place-other k ne)) in
      change ∙ ap (λ i. sum_below (length p) (ahead p ats) + (length
      (lane p l).instructions - i)) place-here

  pub ahead-le : place_of ats l ≤ next.place → all_ahead p (slice_set ats l next) ≤ all_ahead p ats
  ahead-le le =
      let n = length (lane p l).instructions in
      let less : n - next.place ≤ n - place_of ats l = omega (arith, le) in
      omega (arith, sums, less)

  pub ahead-less : place_of ats l < next.place → next.place ≤ length (lane p l).instructions
      → all_ahead p (slice_set ats l next) < all_ahead p ats
  ahead-less less within =
      let n = length (lane p l).instructions in
      let fewer : n - next.place < n - place_of ats l = omega (arith, less, within) in
      omega (arith, sums, fewer)

pub round_start : (u : Universe) (p : Plan) (ats : List Standing) (order there : List ℕ)
    → AreStanding u p ats → length there ≡ names u
    → IsRound u p ats ats order there order there 0 false
round_start u p ats order there standing long =
    record {
      standing = standing;
      long = long;
      reached = λ r. r;
      no_more = omega arith;
      fewer = λ e. absurd (false≢true e);
      held = λ e l lt. absurd (omega (arith, lt));
    }

module _ (u : Universe) (p : Plan) (ats mid : List Standing)
    (order there mid_order mid_there : List ℕ)
    (n : ℕ) (moved : Bool) (so_far : IsRound u p ats mid order there mid_order mid_there n moved)
    (lt : n < length p) (at next : Standing) (at_is : at ≡ get_or mid n at)
    (next_order next_there : List ℕ) (m : Bool)
    (here : IsAdvance u p n at next mid_order mid_there next_order next_there m) where
  abbrev pub after : List Standing
  after = slice_set mid n next

  old : get_or mid n no_standing ≡ at
  old =
      get_or_from_slice_get mid n at no_standing
      (slice_get_read mid (length mid) n at refl (omega (arith, lt, so_far.standing.long)) at_is)

  old_place : place_of mid n ≡ at.place
  old_place = ap (λ (x : Standing). x.place) old

  standing : AreStanding u p after
  standing =
      record {
        long = length-set mid n next ∙ so_far.standing.long;
        each = λ k k_lt. elim (cases_eq k n) [
          | inl same ↦
              subst (λ i. IsStanding u p i (get_or after i no_standing)) (sym same)
              (subst (IsStanding u p n)
              (sym (get_or-set_same mid n next no_standing (omega
              (arith, lt, so_far.standing.long))))
              here.standing)
          | inr other ↦
              subst (IsStanding u p k) (sym (get_or-set_other mid n k next no_standing other))
              (so_far.standing.each k k_lt)
        ];
      }

  left_after : (k : ℕ) → with_left (left_of u p mid) n
      (items_at u p n next.place) k ≡ left_of u p after k
  left_after k =
      elim (cases_eq k n) [
        | inl same ↦
            (rw (eq-eqb k n same) refl) ∙ ap (items_at u p n) (sym
            (place-here p mid n next lt so_far.standing.long))
            ∙ ap (left_of u p after) (sym same)
        | inr other ↦
            (rw (ne_eqb k n other) refl) ∙ ap (items_at u p k) (sym
            (place-other p mid n next lt so_far.standing.long k other))
      ]

  reached : IsReached u p order there (left_of u p ats)
      → IsReached u p next_order next_there (left_of u p after)
  reached r =
      reached_same u p next_order next_there _ _ (λ k k_lt. left_after k)
      (here.leads (left_of u p mid) (so_far.reached r) (ap (items_at u p n) old_place))

  held_here : IsHeldAt u p n (place_of after n) next_there
  held_here = subst (λ i. IsHeldAt u p n i next_there) (sym
      (place-here p mid n next lt so_far.standing.long)) here.held

  no_more : all_ahead p after ≤ all_ahead p ats
  no_more = let le = ahead-le p mid n next lt so_far.standing.long (omega
      (arith, old_place, here.on)) in omega (arith, le, so_far.no_more)

  pub round_moved : m ≡ true → IsRound u p ats after order there next_order next_there (n + 1) true
  round_moved e =
      record {
        standing = standing;
        long = here.long;
        reached = reached;
        no_more = no_more;
        fewer = λ t.
            let less = ahead-less p mid n next lt so_far.standing.long
            (omega (arith, old_place, here.moves e)) here.standing.within in
            omega (arith, less, so_far.no_more);
        held = λ f. absurd (false≢true (sym f));
      }

  pub round_quiet : m ≡ false → IsRound u p ats after order there next_order next_there
      (n + 1) moved
  round_quiet e =
      record {
        standing = standing;
        long = here.long;
        reached = reached;
        no_more = no_more;
        fewer = λ t.
            let le = ahead-le p mid n next lt so_far.standing.long (omega
            (arith, old_place, here.on)) in
            omega (arith, le, so_far.fewer t);
        held = λ f k k_lt. elim (cases_eq k n) [
          | inl same ↦ subst (λ i. IsHeldAt u p i (place_of after i) next_there)
              (sym same) held_here
          | inr other ↦
              subst (λ t. IsHeldAt u p k (place_of after k) t) (sym (here.same e).2)
              (subst (λ i. IsHeldAt u p k i mid_there)
              (sym (place-other p mid n next lt so_far.standing.long k other))
              (so_far.held f k (omega (arith, k_lt, other))))
        ];
      }
