-- Where each point stands in the list of points.
use Rattle.std.proofs.Common.{◌≡◌, ◌⊎◌, inl, inr, ℕ, zero, suc, ◌+◌, ◌<◌, ◌≤◌, Bool, List, [], ◌∷◌, ◌++◌, length, Option, Some, slice_get, refl, sym, ap, subst, ◌∙◌, arith}
use Rattle.std.proofs.lemmas.Option.{none-some, same_Some, slice_get_within}
use Rattle.std.proofs.lemmas.Bool.{cases_eq}
use Rattle.farm_model.specs.Common.{Universe, satisfies_entry}
use Rattle.farm_model.specs.declared.types.Variant.{Variant}
use Rattle.plan_model.specs.Common.{Plan, lane, instruction_at, outputs_before, is_of}
use Rattle.plan_model.specs.declared.instructions.Instruction.{Instruction}
use Rattle.plan_model.specs.declared.instructions.Instruction.TheVariants.{Wait, When}
use Rattle.verdict_laws.proofs.Unions.{there}
use Rattle.sat_rows.proofs.WantedLaws.{front_at}
use Rattle.known_rows.specs.declared.marks.Mark.{Mark}
use Rattle.known_rows.specs.Marks.{marks_of, marks_at, lane_marks, all_marks}
use Rattle.known_rows.specs.Points.{asked, points_before, first_point, point_number, last_point}
use Rattle.known_rows.proofs.Asked.{Asks}
use Rattle.known_rows.proofs.MarkLaws.{get-then, lane_marks-long, all_marks-long}

-- the mark of the point at a place
abbrev pub mark_at : Universe → Plan → ℕ → ℕ → Mark
mark_at u p l i =
    record { lane = l; place = i; own = outputs_before u (lane p l) i 0; before = last_point p l i }

-- an element of two lists, one behind the other
pub split : {X : Type 0} (xs ys : List X) (n : ℕ) (x : X) → slice_get (xs ++ ys) n ≡ Some x
    → (slice_get xs n ≡ Some x) ⊎ ((k : ℕ) × (n ≡ length xs + k) × (slice_get ys k ≡ Some x))
split [] ys n x e = inr (n, omega arith, e)
split (y ∷ xs) ys zero x e = inl e
split (y ∷ xs) ys (suc n) x e =
    elim (split xs ys n x e) [
      | inl first ↦ inl first
      | inr then ↦ inr (then.0, omega (arith, then.1), then.2)
    ]

module _ (u : Universe) (p : Plan) where
  asks-mark : (x : Instruction) (test : Variant → Bool) (l i own : ℕ) (last : Option ℕ)
      → asked u x ≡ Some test → slice_get (marks_of x l i own last) 0
      ≡ Some (record { lane = l; place = i; own = own; before = last })
  asks-mark (Wait e) test l i own last asks = refl
  asks-mark (When name wanted) test l i own last asks = refl
  asks-mark _ test l i own last asks = absurd (none-some test asks)

  in_lane : (n l i : ℕ) (x : Instruction) (test : Variant → Bool)
      → n ≤ length (lane p l).instructions → i < n → instruction_at p l i ≡ Some x
      → asked u x ≡ Some test
      → slice_get (lane_marks u p l n) (points_before p l i) ≡ Some (mark_at u p l i)
  in_lane zero l i x test le lt at asks = absurd (omega (arith, lt))
  in_lane (suc n) l i x test le lt at asks =
      elim (cases_eq i n) [
        | inl here ↦
            get-then (lane_marks u p l n) (marks_at u p l n (instruction_at p l n))
            (points_before p l i) 0
            (let a = lane_marks-long u p l n (omega (arith, le)) in
            let b = ap (points_before p l) here in omega (arith, a, b))
            ∙ ap (λ o. slice_get (marks_at u p l n o) 0) (ap (instruction_at p l) (sym here) ∙ at)
            ∙ asks-mark x test l n (outputs_before u (lane p l) n 0) (last_point p l n) asks
            ∙ ap (λ k. Some (mark_at u p l k)) (sym here)
        | inr other ↦
            front_at (lane_marks u p l n) (marks_at u p l n (instruction_at p l n))
            (points_before p l i)
            (mark_at u p l i) (in_lane n l i x test (omega (arith, le)) (omega (arith, lt, other))
            at asks)
      ]

  pub in_all : (n l i : ℕ) (x : Instruction) (test : Variant → Bool) → l < n
      → instruction_at p l i ≡ Some x → asked u x ≡ Some test
      → slice_get (all_marks u p n) (point_number p l i) ≡ Some (mark_at u p l i)
  in_all zero l i x test lt at asks = absurd (omega (arith, lt))
  in_all (suc n) l i x test lt at asks =
      elim (cases_eq l n) [
        | inl here ↦
            let long = length (lane p n).instructions in
            let below : i < long =
            subst (λ k. i < length (lane p k).instructions) here
            (slice_get_within (lane p l).instructions i x at) in
            get-then (all_marks u p n) (lane_marks u p n long) (point_number p l i)
            (points_before p l i)
            (let a = all_marks-long u p n in let b = ap (first_point p) here in omega (arith, a, b))
            ∙ ap (λ k. slice_get (lane_marks u p n long) (points_before p k i)) here
            ∙ in_lane long n i x test (omega arith) below
            (ap (λ k. instruction_at p k i) (sym here) ∙ at) asks
            ∙ ap (λ k. Some (mark_at u p k i)) (sym here)
        | inr other ↦
            front_at (all_marks u p n) _ (point_number p l i) (mark_at u p l i)
            (in_all n l i x test (omega (arith, lt, other)) at asks)
      ]

  -- where a mark comes from
  pub record IsMarkOf (n w : ℕ) (mark : Mark) : Type 0 where
    pub in_lane_of : ℕ
    pub at_place : ℕ
    pub instruction : Instruction
    pub asks : Asks u instruction
    pub below : in_lane_of < n
    pub there : instruction_at p in_lane_of at_place ≡ Some instruction
    pub number : w ≡ point_number p in_lane_of at_place
    pub is : mark ≡ mark_at u p in_lane_of at_place

  record IsLaneMark (l n w : ℕ) (mark : Mark) : Type 0 where
    pub at_place : ℕ
    pub instruction : Instruction
    pub asks : Asks u instruction
    pub before : at_place < n
    pub there : instruction_at p l at_place ≡ Some instruction
    pub number : w ≡ points_before p l at_place
    pub is : mark ≡ mark_at u p l at_place

  one_mark : (l i k : ℕ) (x : Instruction) (mark : Mark) → instruction_at p l i ≡ Some x
      → slice_get (marks_of x l i (outputs_before u (lane p l) i 0) (last_point p l i)) k ≡ Some
      mark
      → Asks u x × (k ≡ 0) × (mark ≡ mark_at u p l i)
  one_mark l i zero (Wait e) mark at h =
      (record { test = satisfies_entry u e; is = refl }, refl, sym (same_Some _ mark h))
  one_mark l i (suc k) (Wait e) mark at h = absurd (none-some mark h)
  one_mark l i zero (When name wanted) mark at h =
      (record { test = is_of u name wanted; is = refl }, refl, sym (same_Some _ mark h))
  one_mark l i (suc k) (When name wanted) mark at h = absurd (none-some mark h)
  one_mark l i k _ mark at h = absurd (none-some mark h)

  lane_back : (n l w : ℕ) (mark : Mark) → n ≤ length (lane p l).instructions
      → slice_get (lane_marks u p l n) w ≡ Some mark → IsLaneMark l n w mark
  lane_back zero l w mark le h = absurd (none-some mark h)
  lane_back (suc n) l w mark le h =
      elim (split (lane_marks u p l n) (marks_at u p l n (instruction_at p l n)) w mark h) [
        | inl first ↦
            let r = lane_back n l w mark (omega (arith, le)) first in
            record {
              at_place = r.at_place;
              instruction = r.instruction;
              asks = r.asks;
              before = omega (arith, r.before);
              there = r.there;
              number = r.number;
              is = r.is;
            }
        | inr then ↦
            let x = there p l n (omega (arith, le)) in
            let m = one_mark l n then.0 x.0 mark x.1
            (ap (λ o. slice_get (marks_at u p l n o) then.0) (sym x.1) ∙ then.2) in
            record {
              at_place = n;
              instruction = x.0;
              asks = m.0;
              before = omega arith;
              there = x.1;
              number = (let a = lane_marks-long u p l n (omega (arith, le)) in
                  let b : w ≡ points_before p l n = omega (arith, a, then.1, m.1) in b);
              is = m.2;
            }
      ]

  pub all_back : (n w : ℕ) (mark : Mark) → slice_get (all_marks u p n) w ≡ Some mark
      → IsMarkOf n w mark
  all_back zero w mark h = absurd (none-some mark h)
  all_back (suc n) w mark h =
      elim (split (all_marks u p n) (lane_marks u p n (length (lane p n).instructions)) w mark h) [
        | inl first ↦
            let r = all_back n w mark first in
            record {
              in_lane_of = r.in_lane_of;
              at_place = r.at_place;
              instruction = r.instruction;
              asks = r.asks;
              below = omega (arith, r.below);
              there = r.there;
              number = r.number;
              is = r.is;
            }
        | inr then ↦
            let r = lane_back (length (lane p n).instructions) n then.0 mark (omega arith) then.2 in
            record {
              in_lane_of = n;
              at_place = r.at_place;
              instruction = r.instruction;
              asks = r.asks;
              below = omega arith;
              there = r.there;
              number = (let a = all_marks-long u p n in
                  let b : w ≡ point_number p n r.at_place = omega (arith, a, then.1, r.number) in
                  b);
              is = r.is;
            }
      ]
