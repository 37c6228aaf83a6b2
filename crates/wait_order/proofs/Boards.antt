-- Boards that are reached: one more wait passes, or one more output is made.
use Rattle.std.proofs.Common.{◌≡◌, inl, inr, ℕ, ◌<◌, Bool, true, ◌&&◌, ◌||◌, ◌==◌, nat_lt, List, [], ◌∷◌, ◌++◌, length, get_or, Some, slice_set, refl, sym, ap, subst, ◌∙◌, arith, length-set, get_or-set_same, get_or-set_other}
use Rattle.std.specs.Cmp.{both_ways as same_tests}
use Rattle.std.proofs.lemmas.Bool.{cases_eq, eq-eqb, ne_eqb, eqb-true, or_cases, or_left, or_right, and_parts, and_from, lt-ltb}
use Rattle.bit_rows.specs.Sets.{variants_of, AddsVariant}
use Rattle.deb_relation.specs.Relations.{Entry}
use Rattle.farm_model.specs.Common.{Universe, variant, names, variants, same, contains, initial, IsKnown}
use Rattle.farm_model.specs.declared.types.Variant.{Variant}
use Rattle.farm_laws.proofs.Archive.{same-true, same-refl}
use Rattle.plan_model.specs.Common.{Plan, OrderItem, Pass, Give, Board, on_board, rest_of, board_after, Reaches}
use Rattle.plan_model.specs.Turn as turn
use Rattle.sat_rows.specs.Rows.{variant_passes, IsRowOf}
use Rattle.wait_order.specs.Standing.{IsReached, with_left}

reaches_more : (u : Universe) (ls : List ℕ) (b m t : Board) (l : ℕ) → Reaches u b ls m
    → board_after u m l (rest_of m l) ≡ Some t → Reaches u b (ls ++ l ∷ []) t
reaches_more u [] b m t l r e = (
  t,
  subst (λ x. board_after u x l (rest_of x l) ≡ Some t)
      (sym r) e,
  refl,
)
reaches_more u (k ∷ ks) b m t l r e = (r.0, r.1, reaches_more u ks r.0 m t l r.2 e)

-- the same lanes have the same left
pub reached_same : (u : Universe) (p : Plan) (order there : List ℕ) (left next : ℕ → List OrderItem)
    → ((l : ℕ) → l < length p → left l ≡ next l) → IsReached u p order there left
    → IsReached u p order there next
reached_same u p order there left next e r =
    record {
      board = r.board;
      way = r.way;
      long = r.long;
      rest = λ l lt. r.rest l lt ∙ e l lt;
      archive = r.archive;
    }

pub with_left-here : (left : ℕ → List OrderItem) (l : ℕ) (is : List OrderItem)
    → with_left left l is l ≡ is
with_left-here left l is = rw (eq-eqb l l refl) refl

module _ (u : Universe) (p : Plan) (order there : List ℕ) (left : ℕ → List OrderItem)
    (r : IsReached u p order there left) (l : ℕ) (lt : l < length p) (more : List OrderItem) where
  one_more : (t : Board) (next_there : List ℕ)
      → board_after u r.board l (rest_of r.board l) ≡ Some t
      → t.rest ≡ slice_set r.board.rest l more → IsRowOf u (on_board u t) next_there
      → IsReached u p (order ++ l ∷ []) next_there (with_left left l more)
  one_more t next_there e rests archive =
      record {
        board = t;
        way = reaches_more u order _ r.board t l r.way e;
        long = ap length rests ∙ length-set r.board.rest l more ∙ r.long;
        rest = rest;
        archive = archive;
      }
    where
      rest : (k : ℕ) → k < length p → rest_of t k ≡ with_left left l more k
      rest k k_lt =
          elim (cases_eq k l) [
            | inl here ↦
                ap (λ xs. get_or xs k []) rests
                ∙ ap (λ i. get_or (slice_set r.board.rest l more) i []) here
                ∙ get_or-set_same r.board.rest l more [] (omega (arith, r.long))
                ∙ (rw (eq-eqb k l here) refl)
            | inr other ↦
                ap (λ xs. get_or xs k []) rests
                ∙ get_or-set_other r.board.rest l k more [] other
                ∙ r.rest k k_lt
                ∙ (rw (ne_eqb k l other) refl)
          ]

  pub pass_one : (e : Entry) → left l ≡ Pass e ∷ more
      → ((test : Variant → Bool) → IsRowOf u test there → turn.passes u test e ≡ true)
      → IsReached u p (order ++ l ∷ []) there (with_left left l more)
  pass_one e is passed =
      one_more (record { rest = slice_set r.board.rest l more; published = r.board.published })
      there
      (ap (board_after u r.board l) (r.rest l lt ∙ is)
      ∙ (rw (passed (on_board u r.board) r.archive) refl))
      refl r.archive

  added : (v : Variant) (next_there : List ℕ) → IsKnown u v
      → AddsVariant (variants_of there) v.name v.bit (variants_of next_there)
      → length next_there ≡ names u
      → IsRowOf u (λ w. initial u w || contains (v ∷ r.board.published) w) next_there
  added v next_there known adds long =
      record {
        long = long;
        set = λ n b. adds n b ∙ ap (λ x. x || ((n == v.name) && (b == v.bit))) (r.archive.set n b)
            ∙ same_tests _ _ (there_to n b) (back n b);
      }
    where
      at : ℕ → ℕ → Bool
      at n b = variant_passes u (on_board u r.board) n b

      now : Variant → Bool
      now w = initial u w || contains (v ∷ r.board.published) w

      there_to : (n b : ℕ) → (at n b || ((n == v.name) && (b == v.bit))) ≡ true
          → variant_passes u now n b ≡ true
      there_to n b h =
          elim (or_cases (at n b) _ h) [
            | inl old ↦
                let parts = and_parts (nat_lt b (variants u n)) _ old in
                and_from _ _ parts.0 (elim (or_cases (initial u (variant n b)) _ parts.1) [
                  | inl is ↦ or_left (initial u (variant n b)) _ is
                  | inr some ↦ or_right (initial u (variant n b)) _ (or_right (same v
                      (variant n b)) _ some)
                ])
            | inr new ↦
                let parts = and_parts (n == v.name) (b == v.bit) new in
                let n_is = eqb-true n v.name parts.0 in
                let b_is = eqb-true b v.bit parts.1 in
                let is : variant n b ≡ v = ap (λ k. variant k b) n_is
                ∙ ap (λ k. variant v.name k) b_is in
                let k : b < variants u n = subst (λ (w : Variant). w.bit < variants u w.name)
                (sym is) known in
                and_from _ _ (lt-ltb b (variants u n) k)
                (or_right (initial u (variant n b)) _ (or_left (same v (variant n b)) _
                (ap (same v) is ∙ same-refl v)))
          ]

      back : (n b : ℕ) → variant_passes u now n b ≡ true
          → (at n b || ((n == v.name) && (b == v.bit))) ≡ true
      back n b h =
          let parts = and_parts (nat_lt b (variants u n)) _ h in
          elim (or_cases (initial u (variant n b)) _ parts.1) [
            | inl is ↦ or_left (at n b) _ (and_from _ _ parts.0 (or_left (initial u
                (variant n b)) _ is))
            | inr some ↦ elim (or_cases (same v (variant n b)) _ some) [
              | inl new ↦
                  let is : v ≡ variant n b = same-true v (variant n b) new in
                  or_right (at n b) _ (and_from _ _
                  (eq-eqb n v.name (ap (λ (w : Variant). w.name) (sym is)))
                  (eq-eqb b v.bit (ap (λ (w : Variant). w.bit) (sym is))))
              | inr old ↦ or_left (at n b) _ (and_from _ _ parts.0 (or_right (initial u
                  (variant n b)) _ old))
            ]
          ]

  pub give_one : (v : Variant) (next_there : List ℕ) → left l ≡ Give v ∷ more → IsKnown u v
      → AddsVariant (variants_of there) v.name v.bit (variants_of next_there)
      → length next_there ≡ names u
      → IsReached u p (order ++ l ∷ []) next_there (with_left left l more)
  give_one v next_there is known adds long =
      one_more
      (record { rest = slice_set r.board.rest l more; published = v ∷ r.board.published })
      next_there
      (ap (board_after u r.board l) (r.rest l lt ∙ is)) refl (added v next_there known adds long)
