-- Where no lane moves in a round, the board is at rest.
use Rattle.std.proofs.Common.{inl, inr, ℕ, zero, suc, ◌+◌, ◌<◌, ◌≤◌, ◌≡◌, ◌≢◌, Bool, true, false, ◌==◌, ◌&&◌, nat_lt, cond, List, [], ◌∷◌, ◌++◌, length, map, drop, get_or, None, refl, sym, ap, subst, ◌∙◌, arith}
use Rattle.std.specs.List.{filter, range_with_len}
use Rattle.std.proofs.lemmas.Bool.{cases_lt, lt-ltb, le-ltb, false≢true}
use Rattle.std.proofs.lemmas.List.{get_or_past, length-map}
use Rattle.std.proofs.Math.ListN.{drop_of_length-le}
use Rattle.farm_model.specs.Common.{Universe, variant, variants, initial}
use Rattle.farm_laws.proofs.Archive.{or-false}
use Rattle.std.proofs.lemmas.List.Elements.{filter-append}
use Rattle.plan_model.specs.Common.{Lane, Plan, lane, OrderItem, items_of, items, Board, start_board, on_board, rest_of, board_after, IsOrder, AreStuck, IsAtRest}
use Rattle.plan_model.specs.declared.instructions.Instruction.{Instruction}
use Rattle.plan_model.specs.declared.instructions.Instruction.TheVariants.{Wait}
use Rattle.sat_rows.specs.Rows.{IsRowOf}
use Rattle.verdict_laws.specs.Stuck.{is_left, lanes_left, AreLeft}
use Rattle.verdict_laws.proofs.AtRest.{each_rest_is_exact, lanes_left_are_left}
use Rattle.verdict_laws.proofs.Unions.{there}
use Rattle.wait_order.proofs.Leading.{items-split}
use Rattle.wait_order.specs.declared.standing.Standing.{Standing}
use Rattle.wait_order.specs.Settled.{IsSettled}
use Rattle.wait_order.specs.Standing.{items_at, IsReached, Holds, IsHeldAt, place_of, AreStanding, left_of}

items-end : (u : Universe) (is : List Instruction) (i : ℕ) → length is ≤ i
    → items u (drop i is) ≡ []
unfolding items
items-end u is i le = ap (items u) (drop_of_length-le is le)

-- a wait that does not pass
record Blocked (u : Universe) (b : Board) (l : ℕ) (is : List OrderItem) : Type 0 where
  pub none : board_after u b l is ≡ None
  pub left : is_left is ≡ true

blocked : (u : Universe) (b : Board) (l : ℕ) (t : List ℕ) (x : Instruction) (more : List OrderItem)
    → IsRowOf u (on_board u b) t → Holds u t x → Blocked u b l (items_of u x ++ more)
blocked u b l t (Wait e) more row holds =
    record { none = rw (holds (on_board u b) row) refl; left = refl }
blocked u b l t _ more row holds = absurd holds

module _ (u : Universe) (p : Plan) (order t : List ℕ) (ats : List Standing)
    (standing : AreStanding u p ats) (r : IsReached u p order t (left_of u p ats))
    (held : (l : ℕ) → l < length p → IsHeldAt u p l (place_of ats l) t) where
  abbrev pub long_of : ℕ → ℕ
  long_of l = length (lane p l).instructions

  abbrev pub goes_on : ℕ → Bool
  goes_on l = nat_lt (place_of ats l) (long_of l)

  record AtEnd (l : ℕ) : Type 0 where
    pub none : board_after u r.board l (rest_of r.board l) ≡ None
    pub left : is_left (rest_of r.board l) ≡ goes_on l

  at_end : (l : ℕ) → l < length p → AtEnd l
  at_end l lt =
      elim (cases_lt (place_of ats l) (long_of l)) [
        | inl before ↦
            let x = there p l (place_of ats l) before in
            let is : rest_of r.board l ≡ items_of u x.0 ++ items u (drop (suc (place_of ats l))
            (lane p l).instructions) =
            r.rest l lt ∙ items-split u (lane p l).instructions (place_of ats l) x.0 x.1 in
            let b = blocked u r.board l t x.0 (items u (drop (suc (place_of ats l))
            (lane p l).instructions)) r.archive (held l lt x.0 x.1) in
            record {
              none = ap (board_after u r.board l) is ∙ b.none;
              left = ap is_left is ∙ b.left ∙ sym (lt-ltb (place_of ats l) (long_of l) before);
            }
        | inr past ↦
            let is : rest_of r.board l ≡ [] = r.rest l lt
            ∙ items-end u (lane p l).instructions (place_of ats l) past in
            record {
              none = ap (board_after u r.board l) is;
              left = ap is_left is ∙ sym (le-ltb (place_of ats l) (long_of l) past);
            }
      ]

  at_rest : IsAtRest u r.board
  at_rest l =
      elim (cases_lt l (length p)) [
        | inl lt ↦ (at_end l lt).none
        | inr past ↦ ap (board_after u r.board l) (get_or_past r.board.rest l [] (omega
            (arith, past, r.long)))
      ]

  filter-same : (f g : ℕ → Bool) (a n : ℕ) → ((k : ℕ) → k < a + n → f k ≡ g k)
      → filter f (range_with_len a n) ≡ filter g (range_with_len a n)
  filter-same f g a zero e = refl
  filter-same f g a (suc n) e =
      let rest = filter-same f g (a + 1) n (λ k lt. e k (omega (arith, lt))) in
      ap (λ b. cond b (a ∷ filter f (range_with_len (a + 1) n)) (filter f (range_with_len
      (a + 1) n))) (e a (omega arith))
      ∙ ap (λ xs. cond (g a) (a ∷ xs) xs) rest

  these : lanes_left r.board ≡ filter goes_on (range_with_len 0 (length p))
  these =
      ap (λ n. filter (λ l. is_left (rest_of r.board l)) (range_with_len 0 n)) r.long
      ∙ filter-same (λ l. is_left (rest_of r.board l)) goes_on 0 (length p) (λ k lt. (at_end k
      (omega (arith, lt))).left)

  are_left : (lanes : List ℕ) → lanes ≡ filter goes_on (range_with_len 0 (length p))
      → AreLeft r.board lanes
  are_left lanes is = subst (AreLeft r.board) (these ∙ sym is) (lanes_left_are_left r.board)

  pub is_order : (lanes : List ℕ) → lanes ≡ filter goes_on (range_with_len 0 (length p))
      → lanes ≡ []
      → IsOrder u p order
  is_order lanes is none =
      (each_rest_is_exact u p order r.board r.way at_rest).is_order
      (subst (AreLeft r.board) none (are_left lanes is))

  pub are_stuck : (lanes : List ℕ) → lanes ≡ filter goes_on (range_with_len 0 (length p))
      → AreStuck u p lanes
  are_stuck lanes is =
      (each_rest_is_exact u p order r.board r.way at_rest).stuck lanes (are_left lanes is)

pub no_lanes : (xs : List ℕ) → length xs ≡ 0 → xs ≡ []
no_lanes [] e = refl
no_lanes (x ∷ xs) e = absurd (omega (arith, e))

pub some_lanes : (xs ys : List ℕ) → ys ≡ xs → (length ys == 0) ≡ false → xs ≢ []
some_lanes xs ys is e none =
    let empty : (length ys == 0) ≡ true = ap (λ zs. length zs == 0) (is ∙ none) in
    absurd (false≢true (sym e ∙ empty))

-- where no lane moved in a round, the lanes are settled
pub settled : (u : Universe) (p : Plan) (order t : List ℕ) (ats seen : List Standing)
    → IsReached u p order t (left_of u p ats)
    → ((l : ℕ) → l < length p → IsHeldAt u p l (place_of ats l) t) → seen ≡ ats
    → IsSettled u p order seen
settled u p order t ats seen r held same =
    subst (IsSettled u p order) (sym same) (record { there = t; reached = r; held = held })

-- what the lanes that are left say
module _ (u : Universe) (p : Plan) (order : List ℕ) (ats seen : List Standing)
    (standing : AreStanding u p ats) (s : IsSettled u p order ats) (same : seen ≡ ats)
    (lanes : List ℕ)
    (is : lanes ≡ filter (λ l. nat_lt (place_of seen l) (length (lane p l).instructions))
    (range_with_len 0 (length p))) where
  seen_left : lanes
      ≡ filter (goes_on u p order s.there ats standing s.reached s.held)
      (range_with_len 0 (length p))
  seen_left = subst
      (λ xs. lanes ≡ filter (λ l. nat_lt (place_of xs l) (length (lane p l).instructions))
      (range_with_len 0 (length p)))
      same is

  pub order_found : lanes ≡ [] → IsOrder u p order
  order_found none =
      is_order u p order s.there ats standing s.reached s.held lanes seen_left none

  pub stuck_found : AreStuck u p lanes
  stuck_found = are_stuck u p order s.there ats standing s.reached s.held lanes seen_left

-- one lane more is looked at
pub filter_next : (f : ℕ → Bool) (n : ℕ) → filter f (range_with_len 0 (n + 1))
    ≡ filter f (range_with_len 0 n) ++ cond (f n) (n ∷ []) []
filter_next f n =
    ap (filter f) (ap (range_with_len 0) (let e : n + 1 ≡ suc n = omega arith in e)
    ∙ last 0 n n (omega arith))
    ∙ filter-append f (range_with_len 0 n) (n ∷ [])
  where
    last : (a n j : ℕ) → a + n ≡ j → range_with_len a (suc n) ≡ range_with_len a n ++ j ∷ []
    last a zero j e = ap (λ k. k ∷ []) (let g : a ≡ j = omega (arith, e) in g)
    last a (suc n) j e = ap (λ xs. a ∷ xs) (last (a + 1) n j (omega (arith, e)))

initial_board : (u : Universe) (p : Plan) (t : List ℕ) → IsRowOf u (initial u) t
    → IsRowOf u (on_board u (start_board u p)) t
initial_board u p t row =
    record {
      long = row.long;
      set = λ n b. row.set n b
          ∙ ap (λ is. nat_lt b (variants u n) && is) (sym (or-false (initial u (variant n b))));
    }

-- all is left at the start
pub start_reached : (u : Universe) (p : Plan) (t : List ℕ) (ats : List Standing)
    → ((l : ℕ) → place_of ats l ≡ 0) → IsRowOf u (initial u) t
    → IsReached u p [] t (left_of u p ats)
start_reached u p t ats none row =
    record {
      board = start_board u p;
      way = refl;
      long = length-map p (λ (of : Lane). items u of.instructions);
      rest = λ l lt. get_or-map p l lt ∙ ap (items_at u p l) (sym (none l));
      archive = initial_board u p t row;
    }
  where
    get_or-map : (p : Plan) (l : ℕ) → l < length p
        → get_or (map (λ (of : Lane). items u of.instructions) p) l [] ≡ items u
        (lane p l).instructions
    get_or-map [] l lt = absurd (omega (arith, lt))
    get_or-map (x ∷ xs) zero lt = refl
    get_or-map (x ∷ xs) (suc l) lt = get_or-map xs l (omega (arith, lt))
