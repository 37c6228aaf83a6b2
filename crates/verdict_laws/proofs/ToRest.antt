-- Items are made until nothing more goes: each leaves fewer.
use Rattle.std.proofs.Common.{◌≡◌, ◌⊎◌, inl, inr, ℕ, zero, suc, ◌+◌, ◌<◌, ◌≤◌, List, [], ◌∷◌, length, sum_by, Option, Some, None, slice_set, refl, sym, ap, ◌∙◌, arith}
use Rattle.std.proofs.lemmas.Bool.{cases_lt, cases_eq}
use Rattle.std.proofs.lemmas.List.{get_or_past}
use Rattle.std.proofs.lemmas.List.Sums.{sum_by-set}
use Rattle.std.proofs.lemmas.Option.{none-some, same_Some, cond_some}
use Rattle.farm_model.specs.Universe.{Universe}
use Rattle.plan_model.specs.Order.{OrderItem, Pass, Give, Board, start_board, rest_of, board_after, IsAtRest}
use Rattle.verdict_laws.specs.Stuck.{ComesToRest, PlansComeToRest}

-- how many items the lanes have left
abbrev items_left : Board → ℕ
items_left b = sum_by length b.rest

-- an item that is made is no longer left
record Made (b m : Board) (l : ℕ) (xs : List OrderItem) : Type 0 where
  pub item : OrderItem
  pub rest : List OrderItem
  pub was : xs ≡ item ∷ rest
  pub now : m.rest ≡ slice_set b.rest l rest

made : (u : Universe) (b m : Board) (l : ℕ) (xs : List OrderItem) → board_after u b l xs ≡ Some m
    → Made b m l xs
made u b m l [] e = absurd (none-some m e)
made u b m l (Pass entry ∷ rest) e =
    record {
      item = Pass entry;
      rest = rest;
      was = refl;
      now = sym
          (ap (λ (x : Board). x.rest) (cond_some _ _ _ e).1);
    }
made u b m l (Give v ∷ rest) e =
    record {
      item = Give v;
      rest = rest;
      was = refl;
      now = sym
          (ap (λ (x : Board). x.rest) (same_Some _ _ e));
    }

fewer : (u : Universe) (b m : Board) (l : ℕ) → l < length b.rest
    → board_after u b l (rest_of b l) ≡ Some m → items_left m < items_left b
fewer u b m l lt e =
    let r = made u b m l (rest_of b l) e in
    let sums : sum_by length (slice_set b.rest l r.rest) + length
    (rest_of b l) ≡ sum_by length b.rest + length r.rest =
    sum_by-set length b.rest l r.rest [] lt in
    let after : items_left m ≡ sum_by length (slice_set b.rest l r.rest) =
    ap (sum_by length) r.now in
    let long : length (rest_of b l) ≡ suc (length r.rest) = ap length r.was in
    omega (arith, sums, after, long)

-- of the lanes below n none can go on, or one can
record Goes (u : Universe) (b : Board) (n : ℕ) : Type 0 where
  pub lane_number : ℕ
  pub next : Board
  pub below : lane_number < n
  pub is : board_after u b lane_number (rest_of b lane_number) ≡ Some next

goes : (u : Universe) (b : Board) (n : ℕ)
    → ((l : ℕ) → l < n → board_after u b l (rest_of b l) ≡ None) ⊎ Goes u b n
goes u b zero = inl (λ l lt. absurd (omega arith))
goes u b (suc n) =
    elim (goes u b n) [
      | inl none ↦ here none (board_after u b n (rest_of b n)) refl
      | inr one ↦
          inr (record {
            lane_number = one.lane_number;
            next = one.next;
            below = omega
                (arith, one.below);
            is = one.is;
          })
    ]
  where
    here : ((l : ℕ) → l < n → board_after u b l (rest_of b l) ≡ None) → (o : Option Board)
        → board_after u b n (rest_of b n) ≡ o
        → ((l : ℕ) → l < suc n → board_after u b l (rest_of b l) ≡ None) ⊎ Goes u b (suc n)
    here none None e =
        inl (λ l lt. elim (cases_eq l n) [
          | inl same ↦ ap (λ k. board_after u b k (rest_of b k)) same
              ∙ e
          | inr other ↦ none l (omega arith)
        ])
    here none (Some m) e = inr (record { lane_number = n; next = m; below = omega arith; is = e })

-- a lane that the board does not have cannot go on
no_lane_goes : (u : Universe) (b : Board)
    → ((l : ℕ) → l < length b.rest → board_after u b l (rest_of b l) ≡ None) → IsAtRest u b
no_lane_goes u b none l =
    elim (cases_lt l (length b.rest))
    [ inl lt ↦ none l lt | inr past ↦ ap (board_after u b l) (get_or_past b.rest l [] past) ]

comes_to_rest : (u : Universe) (n : ℕ) (b : Board) → items_left b ≤ n → ComesToRest u b
comes_to_rest u zero b le =
    elim (goes u b (length b.rest)) [
      | inl none ↦ record { order = []; end = b; way = refl; at_rest = no_lane_goes u b none }
      | inr one ↦ absurd (omega (arith, fewer u b one.next one.lane_number one.below one.is))
    ]
comes_to_rest u (suc n) b le =
    elim (goes u b (length b.rest)) [
      | inl none ↦ record { order = []; end = b; way = refl; at_rest = no_lane_goes u b none }
      | inr one ↦
          let r =
          comes_to_rest u n one.next (omega
          (arith, fewer u b one.next one.lane_number one.below one.is)) in
          record {
            order = one.lane_number ∷ r.order;
            end = r.end;
            way =
                (one.next, one.is, r.way);
            at_rest = r.at_rest;
          }
    ]

pub plans_come_to_rest : PlansComeToRest
plans_come_to_rest u p =
    comes_to_rest u (items_left (start_board u p)) (start_board u p) (omega arith)
