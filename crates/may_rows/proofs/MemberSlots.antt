-- The slots of the members of a set, changed one after the other.
use Rattle.std.proofs.Common.{◌≡◌, inl, inr, ℕ, zero, suc, ◌+◌, ◌<◌, Bool, true, false, ◌||◌, ◌==◌, List, [], ◌∷◌, ◌++◌, length, take, take_all, get_or, Option, Some, None, refl, sym, ap, ◌∙◌, arith, if◌then◌else◌}
use Rattle.std.proofs.lemmas.Bool.{cases_eq, eq-eqb, ne_eqb, both_ways}
use Rattle.std.proofs.lemmas.Option.{none-some}
use Rattle.std.proofs.lemmas.List.Folds.{list_any_at, list_any_more}
use Rattle.farm_model.specs.Common.{member, first_trap}
use Rattle.farm_model.specs.declared.types.Trap.{Trap}
use Rattle.plan_model.specs.Common.{has_double, MaySlot, May}
use Rattle.may_rows.specs.Words.{with_slot}
use Rattle.may_rows.specs.Configures.{slots_after}

-- ---- lists of tests

front : (b : Bool) (s : Trap) (now later : Option Trap) (t : Trap)
    → (if b then Some s else now) ≡ Some t → (now ≡ Some t → later ≡ Some t)
    → (if b then Some s else later) ≡ Some t
front true s now later t is rest = is
front false s now later t is rest = rest is

back : (b : Bool) (s : Trap) (now later next : Option Trap)
    → (if b then Some s else now) ≡ None → (now ≡ None → later ≡ next)
    → (if b then Some s else later) ≡ next
back true s now later next is rest = absurd (none-some s (sym is))
back false s now later next is rest = rest is

-- the first trap of two lists is that of the first, or else that of the second
pub first_trap-front : (xs ys : List (Bool × Trap)) (t : Trap) → first_trap xs ≡ Some t
    → first_trap (xs ++ ys) ≡ Some t
unfolding first_trap
first_trap-front [] ys t is = absurd (none-some t is)
first_trap-front (x ∷ xs) ys t is =
    front x.0 x.1 (first_trap xs) (first_trap (xs ++ ys)) t is (first_trap-front xs ys t)

pub first_trap-back : (xs ys : List (Bool × Trap)) → first_trap xs ≡ None
    → first_trap (xs ++ ys) ≡ first_trap ys
unfolding first_trap
first_trap-back [] ys is = refl
first_trap-back (x ∷ xs) ys is =
    back x.0 x.1 (first_trap xs) (first_trap (xs ++ ys)) (first_trap ys) is (first_trap-back xs ys)

-- ---- members

or_none : (a b : Bool) → (a || b) ≡ false → (a ≡ false) × (b ≡ false)
or_none true b is = cc
or_none false b is = (refl, is)

pub member-at : (ms : List ℕ) (i d : ℕ) → i < length ms → member ms (get_or ms i d) ≡ true
member-at ms i d lt = list_any_at (λ k. k == get_or ms i d) ms i d lt (eq-eqb _ _ refl)

no-member : (ms : List ℕ) (n i d : ℕ) → member ms n ≡ false → i < length ms
    → (n == get_or ms i d) ≡ false
no-member ms n i d none lt =
    ne_eqb n (get_or ms i d)
    (λ same. both_ways _ none (ap (member ms) same ∙ member-at ms i d lt))

-- a member does not stand before its place
pub member-once : (ms : List ℕ) (i d : ℕ) → has_double ms ≡ false → i < length ms
    → member (take i ms) (get_or ms i d) ≡ false
member-once [] i d once lt = absurd (omega arith)
member-once (m ∷ ms) zero d once lt = refl
member-once (m ∷ ms) (suc i) d once lt =
    let parts = or_none (member ms m) (has_double ms) once in
    rw (no-member ms m i d parts.0 (omega arith)) (member-once ms i d parts.1 (omega arith))

member-more : (ms : List ℕ) (i n : ℕ) → i < length ms
    → member (take (i + 1) ms) n ≡ (member (take i ms) n || (get_or ms i 0 == n))
member-more ms i n lt = list_any_more (λ j. j == n) ms i 0 lt

module _ (f : MaySlot → MaySlot) (m : May) (ms : List ℕ) where
  pub slots-start : m ≡ slots_after f m (take 0 ms)
  slots-start = refl

  pub slots-end : (i : ℕ) → length ms ≡ i → slots_after f m (take i ms) ≡ slots_after f m ms
  slots-end i end = ap (slots_after f m) (take_all i ms (omega (arith, end)))

  module _ (i : ℕ) (lt : i < length ms) (once : has_double ms ≡ false) where
    abbrev k : ℕ
    k = get_or ms i 0

    fresh : member (take i ms) k ≡ false
    fresh = member-once ms i 0 once lt

    slot-next : (n : ℕ)
        → (with_slot (slots_after f m (take i ms)) k (f (m.slots k))).slots n
        ≡ (slots_after f m (take (i + 1) ms)).slots n
    slot-next n =
        elim (cases_eq n k) [
          | inl same ↦
              rw (member-more ms i n lt, eq-eqb n k same, eq-eqb k n (sym same))
              (ap (λ j. f (m.slots j)) (sym same)
              ∙ by (member (take i ms) n) (f (m.slots n)) (m.slots n))
          | inr other ↦
              rw (member-more ms i n lt, ne_eqb n k other, ne_eqb k n (λ e. other (sym e)))
              (by_rest (member (take i ms) n) (f (m.slots n)) (m.slots n))
        ]
      where
        by : (b : Bool) (x y : MaySlot) → x ≡ (if b || true then x else y)
        by true x y = refl
        by false x y = refl

        by_rest : (b : Bool) (x y : MaySlot) → (if b then x else y) ≡ (if b || false then x else y)
        by_rest true x y = refl
        by_rest false x y = refl

    -- one member more
    pub slots-next : (w next : May) → w ≡ slots_after f m (take i ms)
        → next ≡ with_slot w k (f (w.slots k))
        → next ≡ slots_after f m (take (i + 1) ms)
    slots-next w next so_far added =
        added
        ∙ ap (λ (v : May). with_slot v k (f (v.slots k))) so_far
        ∙ ap (λ s. with_slot (slots_after f m (take i ms)) k (f s))
        (ap (λ b. if b then f (m.slots k) else m.slots k) fresh)
        ∙ (λ j. record { slots = λ n. slot-next n j; cost = m.cost; built = m.built })
