-- A lane goes on.
use Rattle.std.proofs.Common.{◌≡◌, inl, inr, ℕ, suc, ◌+◌, ◌<◌, ◌≤◌, Bool, true, List, [], ◌∷◌, ◌++◌, length, map, take, drop, get_or, Some, nat_lt, slice_get, refl, sym, ap, subst, ◌∙◌, arith, append_assoc}
use Rattle.std.proofs.Math.Seq.{take-suc}
use Rattle.std.proofs.lemmas.Bool.{cases_eq, eq-eqb, ne_eqb, ltb-true, ltb-false, false≢true}
use Rattle.std.proofs.lemmas.Option.{slice_get_read, slice_get_within}
use Rattle.std.proofs.lemmas.List.{map-append}
use Rattle.bit_rows.specs.Sets.{variants_of, AddsVariant}
use Rattle.deb_relation.specs.Relations.{Entry}
use Rattle.farm_model.specs.Common.{Universe, names, outputs, IsKnown, IsUniverse}
use Rattle.farm_model.specs.declared.types.Variant.{Variant}
use Rattle.farm_laws.proofs.Branches.{drop_some}
use Rattle.plan_model.specs.Common.{Plan, lane, instruction_at, OrderItem, Pass, Give, items_of, items}
use Rattle.plan_model.specs.declared.instructions.Instruction.{Instruction}
use Rattle.plan_model.specs.declared.instructions.Instruction.TheVariants.{Wait}
use Rattle.plan_model.specs.Turn as turn
use Rattle.sat_rows.specs.Rows.{IsRowOf}
use Rattle.wait_order.specs.declared.standing.Standing.{Standing}
use Rattle.wait_order.specs.Standing.{items_at, with_left, Makes, IsHeldAt, IsMade, IsStanding, Leads, IsAdvance}
use Rattle.wait_order.proofs.Boards.{reached_same, with_left-here, pass_one, give_one}

-- what is left last is what is left
with_left-twice : (left : ℕ → List OrderItem) (l : ℕ) (is more : List OrderItem) (k : ℕ)
    → with_left (with_left left l is) l more k ≡ with_left left l more k
with_left-twice left l is more k =
    elim (cases_eq k l) [
      | inl here ↦ rw (eq-eqb k l here) refl
      | inr other ↦ rw (ne_eqb k l other) refl
    ]

with_left-same : (left : ℕ → List OrderItem) (l : ℕ) (is : List OrderItem) → left l ≡ is → (k : ℕ)
    → left k ≡ with_left left l is k
with_left-same left l is e k =
    elim (cases_eq k l) [
      | inl here ↦ ap left here ∙ e ∙ (rw (eq-eqb k l here) refl)
      | inr other ↦ rw (ne_eqb k l other) refl
    ]

pub makes_none : (u : Universe) (l : ℕ) (order there : List ℕ)
    → Makes u l [] order there order there
makes_none u l order there p left more lt r is =
    reached_same u p order there left _ (λ k k_lt. with_left-same left l more is k) r

pub makes_pass : (u : Universe) (l : ℕ) (e : Entry) (order there : List ℕ)
    → ((test : Variant → Bool) → IsRowOf u test there → turn.passes u test e ≡ true)
    → Makes u l (Pass e ∷ []) order there (order ++ l ∷ []) there
makes_pass u l e order there passed p left more lt r is =
    pass_one u p order there left r l lt more e is passed

-- one more output
pub makes_give : (u : Universe) (l : ℕ) (vs : List Variant) (i : ℕ) (d v : Variant)
    (order there mid_order mid_there next_there : List ℕ) → i < length vs → v ≡ get_or vs i d
    → IsKnown u v → AddsVariant (variants_of mid_there) v.name v.bit (variants_of next_there)
    → length next_there ≡ names u
    → Makes u l (map Give (take i vs)) order there mid_order mid_there
    → Makes u l (map Give (take (i + 1) vs)) order there (mid_order ++ l ∷ []) next_there
makes_give u l vs i d v order there mid_order mid_there next_there i_lt v_is known adds long makes
    p left more lt r is =
    let split : map Give (take (i + 1) vs) ≡ map Give (take i vs) ++ Give v ∷ [] =
    ap (λ k. map Give (take k vs)) (let e : i + 1 ≡ suc i = omega arith in e)
    ∙ ap (map Give) (take-suc vs i d i_lt ∙ ap (λ w. take i vs ++ w ∷ []) (sym v_is))
    ∙ map-append Give (take i vs) (v ∷ []) in
    let ahead : left l ≡ map Give (take i vs) ++ Give v ∷ more =
    is ∙ ap (λ xs. xs ++ more) split ∙ append_assoc (map Give (take i vs)) (Give v ∷ []) more in
    let mid = makes p left (Give v ∷ more) lt r ahead in
    reached_same u p (mid_order ++ l ∷ []) next_there _ _
    (λ k k_lt. with_left-twice left l (Give v ∷ more) more k)
    (give_one u p mid_order mid_there (with_left left l (Give v ∷ more)) mid l lt more v next_there
    (with_left-here left l (Give v ∷ more)) known adds long)

pub leads_start : (u : Universe) (p : Plan) (l i : ℕ) (order there : List ℕ)
    → Leads u p l i i order there order there
leads_start u p l i order there left r is =
    reached_same u p order there left _ (λ k k_lt. with_left-same left l _ is k) r

pub items-split : (u : Universe) (is : List Instruction) (j : ℕ) (x : Instruction)
    → slice_get is j ≡ Some x → items u (drop j is) ≡ items_of u x ++ items u (drop (suc j) is)
unfolding items
items-split u is j x at = ap (items u) (drop_some is j x at)

-- the instruction at the place is made
pub leads_more : (u : Universe) (p : Plan) (l i j : ℕ) (x : Instruction)
    (order there mid_order mid_there next_order next_there : List ℕ) → l < length p
    → instruction_at p l j ≡ Some x → Leads u p l i j order there mid_order mid_there
    → Makes u l (items_of u x) mid_order mid_there next_order next_there
    → Leads u p l i (suc j) order there next_order next_there
leads_more u p l i j x order there mid_order mid_there next_order next_there lt at leads makes left
    r is =
    reached_same u p next_order next_there _ _
    (λ k k_lt. with_left-twice left l (items_at u p l j) (items_at u p l (suc j)) k)
    (makes p (with_left left l (items_at u p l j)) (items_at u p l (suc j)) lt (leads left r is)
    (with_left-here left l (items_at u p l j) ∙ items-split u (lane p l).instructions j x at))

-- an output of a recipe is known
pub known_output : (u : Universe) (r : ℕ) (vs : List Variant) (i : ℕ) (d : Variant) → IsUniverse u
    → vs ≡ outputs u r → i < length vs → IsKnown u (get_or vs i d)
known_output u r vs i d sound is lt =
    subst (λ ws. i < length ws → IsKnown u (get_or ws i d)) (sym is)
    (λ below. sound.outputs_known r i d below) lt

pub standing_at : (u : Universe) (p : Plan) (l i : ℕ) → i ≤ length (lane p l).instructions
    → IsStanding u p l (record { place = i })
standing_at u p l i le = record { within = le }

-- the lane went on to a place at which it is held
pub advance_done : (u : Universe) (p : Plan) (l : ℕ) (at next : Standing)
    (order there next_order next_there : List ℕ) (place : ℕ) → IsStanding u p l next
    → next.place ≡ place → length next_there ≡ names u → at.place ≤ place
    → Leads u p l at.place place order there next_order next_there
    → (place ≡ at.place → (next_order ≡ order) × (next_there ≡ there))
    → IsHeldAt u p l place next_there
    → IsAdvance u p l at next order there next_order next_there (nat_lt at.place place)
advance_done u p l at next order there next_order next_there place standing is long on leads same
    held =
    record {
      standing = standing;
      long = long;
      on = omega (arith, is, on);
      moves = λ e. omega (arith, is, ltb-true at.place place e);
      same = λ e. let stays : place ≡ at.place = omega (arith, on, ltb-false at.place place e) in
          (is ∙ stays, (same stays).0, (same stays).1);
      leads = subst (λ i. Leads u p l at.place i order there next_order next_there) (sym is) leads;
      held = subst (λ i. IsHeldAt u p l i next_there) (sym is) held;
    }

-- past the last instruction a lane is held
pub held_past : (u : Universe) (p : Plan) (l i : ℕ) (there : List ℕ)
    → length (lane p l).instructions ≤ i → IsHeldAt u p l i there
held_past u p l i there le x at = let lt = slice_get_within (lane p l).instructions i x at in
    absurd (omega (arith, le, lt))

-- a wait that passes is made
pub made_wait : (u : Universe) (l : ℕ) (x : Instruction) (e : Entry)
    (order there next_order : List ℕ) (b : Bool) → x ≡ Wait e
    → length there ≡ names u
    → ((test : Variant → Bool) → IsRowOf u test there → b ≡ turn.passes u test e) → b ≡ true
    → next_order ≡ order ++ l ∷ [] → IsMade u l x order there next_order there true
made_wait u l x e order there next_order b is long passes passed next =
    subst (λ y. IsMade u l y order there next_order there true) (sym is) (record {
      long = long;
      makes = λ t. subst (λ os. Makes u l (Pass e ∷ []) order there os there) (sym next)
          (makes_pass u l e order there (λ test row. sym (passes test row) ∙ passed));
      holds = λ f. absurd (false≢true (sym f));
      same = λ f. absurd (false≢true (sym f));
    })
