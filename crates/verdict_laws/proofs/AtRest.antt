-- A board on which nothing more goes.
use Rattle.std.proofs.Common.{◌≡◌, ◌≢◌, ◌⊎◌, inl, inr, ℕ, zero, suc, ◌+◌, ◌<◌, Bool, true, false, List, [], ◌∷◌, length, get_or, Some, refl, sym, ap, ◌∙◌, arith, length-set}
use Rattle.std.specs.Prelude.{Contains}
use Rattle.std.specs.List.{filter, range_with_len}
use Rattle.std.specs.List.Sorted.{IsStrictlyIncreasing}
use Rattle.std.proofs.lemmas.Bool.{cases_lt, cases_Bool}
use Rattle.std.proofs.lemmas.List.{get_or_past, length-map}
use Rattle.std.proofs.lemmas.List.Elements.{filter_passes}
use Rattle.std.proofs.lemmas.List.FromFn.{length-range_with_len, get_or-range_with_len}
use Rattle.std.proofs.lemmas.List.Kept.{IsStrictlyIncreasing-filter}
use Rattle.std.proofs.lemmas.Option.{none-some, same_Some, cond_some}
use Rattle.farm_model.specs.Universe.{Universe}
use Rattle.plan_model.specs.Common.{Lane, OrderItem, Pass, Give, items, Board, start_board, rest_of, board_after, Reaches, CannotEnd}
use Rattle.farm_laws.proofs.Boards.{stuck_exact}
use Rattle.verdict_laws.specs.Stuck.{is_left, lanes_left, EachRestIsExact, LanesLeftAreLeft}

-- an item leaves as many lanes as there were
pub after_long : (u : Universe) (b next : Board) (l : ℕ) (is : List OrderItem)
    → board_after u b l is ≡ Some next → length next.rest ≡ length b.rest
after_long u b next l [] e = absurd (none-some next e)
after_long u b next l (Pass entry ∷ is) e =
    let r =
    cond_some _ _ _ e in sym (ap (λ (x : Board). length x.rest) r.1) ∙ length-set b.rest l is
after_long u b next l (Give v ∷ is) e =
    sym (ap (λ (x : Board). length x.rest) (same_Some _ _ e)) ∙ length-set b.rest l is

reaches_long : (u : Universe) (ls : List ℕ) (b t : Board) → Reaches u b ls t
    → length t.rest ≡ length b.rest
reaches_long u [] b t r = sym (ap (λ (x : Board). length x.rest) r)
reaches_long u (l ∷ ls) b t r = reaches_long u ls r.0 t r.2 ∙ after_long u b r.0 l (rest_of b l) r.1

-- a lane that has something left is a lane of the board
left_lane : (b : Board) (l : ℕ) → rest_of b l ≢ [] → l < length b.rest
left_lane b l ne =
    elim (cases_lt l (length b.rest))
    [ inl lt ↦ lt | inr past ↦ absurd (ne (get_or_past b.rest l [] past)) ]

-- a list is empty where it cannot be otherwise
empty : (xs : List OrderItem) → ((xs ≢ []) → ⊥) → xs ≡ []
empty [] h = refl
empty (x ∷ xs) h = absurd (h (λ e. cc))

nothing_in : (l : ℕ) → Contains [] l → ⊥
nothing_in l c = absurd (omega (arith, c.1))

pub each_rest_is_exact : EachRestIsExact
each_rest_is_exact u p order end way rest =
    record {
      cannot_end = cannot_end;
      left = left;
      stuck = λ lanes are. record {
        stuck =
            λ k d lt. (
              omega (
                arith,
                long,
                left_lane end (get_or lanes k d)
                    (are.left k d lt),
              ),
              cannot_end (get_or lanes k d) (are.left k d lt),
            );
        all = λ l lt cannot. are.all l (left l cannot);
        in_order = are.in_order;
      };
      is_order =
          λ none. record {
            end = end;
            way = way;
            all_done = λ l. empty (rest_of end l)
                (λ ne. nothing_in l (none.all l ne));
          };
    }
  where
    long : length end.rest ≡ length p
    long =
        reaches_long u order (start_board u p) end way
        ∙ length-map p (λ (of : Lane). items u of.instructions)

    cannot_end : (l : ℕ) → rest_of end l ≢ [] → CannotEnd u p l
    cannot_end l ne other_order other r e =
        ne (stuck_exact u (start_board u p) end other order other_order way rest r l
        (left_lane end l ne) e)

    left : (l : ℕ) → CannotEnd u p l → rest_of end l ≢ []
    left l cannot = cannot order end way

is_left-true : (xs : List OrderItem) → xs ≢ [] → is_left xs ≡ true
is_left-true [] ne = absurd (ne refl)
is_left-true (x ∷ xs) ne = refl

is_left-ne : (xs : List OrderItem) → is_left xs ≡ true → xs ≢ []
is_left-ne [] e h = cc
is_left-ne (x ∷ xs) e h = cc

-- an element that passes is kept
kept : (p : ℕ → Bool) (xs : List ℕ) (x : ℕ) → p x ≡ true → Contains xs x → Contains (filter p xs) x
kept p [] x h c = absurd (nothing_in x c)
kept p (y ∷ ys) x h (zero, lt, is) = by (cases_Bool (p y))
  where
    here : p y ≡ true
    here = ap p is ∙ h

    by : (p y ≡ true) ⊎ (p y ≡ false) → Contains (filter p (y ∷ ys)) x
    by (inl yes_it) = rw yes_it (0, omega arith, is)
    by (inr not_it) = cc
kept p (y ∷ ys) x h (suc k, lt, is) = by (cases_Bool (p y)) (kept p ys x h (k, omega arith, is))
  where
    by : (p y ≡ true) ⊎ (p y ≡ false) → Contains (filter p ys) x → Contains (filter p (y ∷ ys)) x
    by (inl yes_it) c = rw yes_it (suc c.0, omega (arith, c.1), c.2)
    by (inr not_it) c = rw not_it c

rising : (a n : ℕ) → IsStrictlyIncreasing (range_with_len a n)
rising a n k lt =
    let long = length-range_with_len a n in
    let low = get_or-range_with_len a n k 0 (omega arith) in
    let high = get_or-range_with_len a n (k + 1) 0 (omega arith) in omega (arith, low, high)

pub lanes_left_are_left : LanesLeftAreLeft
lanes_left_are_left b =
    record {
      left =
          λ k d lt. is_left-ne (rest_of b (get_or (lanes_left b) k d))
          (filter_passes (λ l. is_left (rest_of b l)) (range_with_len 0 (length b.rest)) k d lt);
      all = λ l ne.
          let lt = left_lane b l ne in
          kept (λ l. is_left (rest_of b l)) (range_with_len 0 (length b.rest)) l
          (is_left-true (rest_of b l) ne) (
            l,
            omega (arith, lt, length-range_with_len 0 (length b.rest)),
            get_or-range_with_len 0
                (length b.rest) l l lt ∙ omega arith,
          );
      in_order =
          IsStrictlyIncreasing-filter (λ l. is_left (rest_of b l))
          (range_with_len 0 (length b.rest)) (rising 0 (length b.rest));
    }
