-- Orders of waits and outputs: their lanes are the plan's, and a list that breaks off is none.
use Rattle.std.proofs.Common.{◌≡◌, ℕ, zero, suc, ◌<◌, ◌≤◌, List, [], ◌∷◌, length, take, Some, None, All, slice_index, inl, inr, sym, ap, subst, ◌∙◌, arith}
use Rattle.std.proofs.lemmas.Bool.{cases_lt}
use Rattle.std.proofs.lemmas.List.{get_or_past, length-map, take-take, get_or-take, length-take-le}
use Rattle.std.proofs.lemmas.List.Elements.{All-nil, All-cons}
use Rattle.std.proofs.lemmas.Option.{none-some, same_Some}
use Rattle.farm_model.specs.Universe.{Universe}
use Rattle.plan_model.specs.Common.{items, Board, start_board, rest_of, board_after, Reaches, IsOrder, Plan, Lane}
use Rattle.verdict_laws.proofs.AtRest.{after_long}
use Rattle.plan_cert.specs.Broken.{CannotStep, IsBrokenAt}

-- a lane that makes an item is one of the board
steps-within : (u : Universe) (b next : Board) (l : ℕ) → board_after u b l (rest_of b l) ≡ Some next
    → l < length b.rest
steps-within u b next l e =
    elim (cases_lt l (length b.rest)) [
      | inl lt ↦ lt
      | inr past ↦ absurd (none-some next
          (sym (ap (board_after u b l) (get_or_past b.rest l [] past)) ∙ e))
    ]

lanes-within : (u : Universe) (n : ℕ) (order : List ℕ) (b t : Board) → length b.rest ≡ n
    → Reaches u b order t → All (λ l. l < n) order
lanes-within u n [] b t long way = All-nil (λ l. l < n)
lanes-within u n (l ∷ ls) b t long way =
    let within = steps-within u b way.0 l way.1 in
    All-cons (λ k. k < n) l ls (omega (arith, within, long))
    (lanes-within u n ls way.0 t (after_long u b way.0 l (rest_of b l) way.1 ∙ long) way.2)

-- the lanes of an order are those of the plan
pub order-in-plan : (u : Universe) (p : Plan) (order : List ℕ) → IsOrder u p order
    → All (λ l. l < length p) order
order-in-plan u p order is =
    lanes-within u (length p) order (start_board u p) is.end
    (length-map p (λ (of : Lane). items u of.instructions)) is.way

-- ---- where a list breaks off

-- a list leads to one board at most
same-end : (u : Universe) (order : List ℕ) (b s t : Board) → Reaches u b order s
    → Reaches u b order t → s ≡ t
same-end u [] b s t first second = sym first ∙ second
same-end u (l ∷ ls) b s t first second =
    let one : first.0 ≡ second.0 = same_Some _ _ (sym first.1 ∙ second.1) in
    same-end u ls second.0 s t (subst (λ m. Reaches u m ls s) one first.2) second.2

-- where the first items of a list lead to a board, its next item is made there
next-made : (u : Universe) (order : List ℕ) (n : ℕ) (b m t : Board) → n < length order
    → Reaches u b (take n order) m → Reaches u b order t
    → (next : Board) × (board_after u m (slice_index order n) (rest_of m (slice_index order n))
    ≡ Some next)
next-made u [] n b m t lt part way = absurd (omega (arith, lt))
next-made u (l ∷ ls) zero b m t lt part way =
    subst (λ (c : Board). (next : Board) × (board_after u c l (rest_of c l) ≡ Some next)) part
    (way.0, way.1)
next-made u (l ∷ ls) (suc n) b m t lt part way =
    let one : part.0 ≡ way.0 = same_Some _ _ (sym part.1 ∙ way.1) in
    next-made u ls n way.0 m t (omega (arith, lt))
    (subst (λ (c : Board). Reaches u c (take n ls) m) one part.2) way.2

-- an order breaks off nowhere
pub order-unbroken : (u : Universe) (p : Plan) (order : List ℕ) (item : ℕ) → IsOrder u p order
    → IsBrokenAt u p order item → ⊥
order-unbroken u p order item is broken =
    elim broken.2 [
      | inl stuck ↦
          let made = next-made u order broken.0 (start_board u p) stuck.board is.end stuck.within
          stuck.way is.way in
          none-some made.0 (sym stuck.stops ∙ made.1)
      | inr some ↦
          some.left (ap (λ (b : Board). rest_of b some.lane)
          (same-end u order (start_board u p) some.board is.end some.way is.way)
          ∙ is.all_done some.lane)
    ]

module _ (u : Universe) (p : Plan) (order : List ℕ) where
  -- before no item that is made does a list break off
  not-before : (m n : ℕ) (t : Board) → m < n → n ≤ length order → CannotStep u p order m
      → Reaches u (start_board u p) (take n order) t → ⊥
  not-before m n t lt le stuck way =
      let part = subst (λ ls. Reaches u (start_board u p) ls stuck.board)
      (sym (take-take m n order (omega (arith, lt)))) stuck.way in
      let made = next-made u (take n order) m (start_board u p) stuck.board t
      (omega (arith, lt, length-take-le n order le)) part way in
      let stops = subst (λ l. board_after u stuck.board l (rest_of stuck.board l) ≡ None)
      (sym (get_or-take n order m 0 lt)) stuck.stops in
      none-some made.0 (sym stops ∙ made.1)

  not-whole : (m : ℕ) (t : Board) → CannotStep u p order m → Reaches u (start_board u p) order t → ⊥
  not-whole m t stuck way =
      let made = next-made u order m (start_board u p) stuck.board t stuck.within stuck.way way in
      none-some made.0 (sym stuck.stops ∙ made.1)

  same-stop : (m n : ℕ) → CannotStep u p order m → CannotStep u p order n → m ≡ n
  same-stop m n a b =
      elim (cases_lt m n) [
        | inl lt ↦ absurd (not-before m n b.board lt (omega (arith, b.within)) a b.way)
        | inr le ↦ elim (cases_lt n m) [
          | inl lt ↦ absurd (not-before n m a.board lt (omega (arith, a.within)) b a.way)
          | inr ge ↦ omega (arith, le, ge)
        ]
      ]

  -- a list breaks off at one item at most
  pub broken-once : (item other : ℕ) → IsBrokenAt u p order item → IsBrokenAt u p order other
      → item ≡ other
  broken-once item other a b =
      let same : a.0 ≡ b.0 = elim a.2 [
        | inl stuck ↦ elim b.2 [
          | inl again ↦ same-stop a.0 b.0 stuck again
          | inr some ↦ absurd (not-whole a.0 some.board stuck some.way)
        ]
        | inr some ↦ elim b.2 [
          | inl stuck ↦ absurd (not-whole b.0 some.board stuck some.way)
          | inr again ↦ some.ended ∙ sym again.ended
        ]
      ] in
      omega (arith, same, a.1, b.1)
