-- The points of all marks.
use Rattle.std.proofs.Common.{◌≡◌, inl, inr, ℕ, ◌+◌, ◌<◌, Bool, List, ◌∷◌, [], ◌++◌, length, get_or, Option, Some, slice_get, refl, sym, ap, subst, ◌∙◌, arith}
use Rattle.std.proofs.lemmas.Option.{same_Some, slice_get-get_or, slice_get_within}
use Rattle.std.proofs.lemmas.Bool.{cases_eq}
use Rattle.deb_relation.specs.declared.operator.Op.{Op}
use Rattle.farm_model.specs.Common.{Universe, names}
use Rattle.farm_model.specs.declared.types.Variant.{Variant}
use Rattle.plan_model.specs.Common.{IsSound, Plan, lane, instruction_at, outputs_before}
use Rattle.plan_model.specs.declared.instructions.Instruction.{Instruction}
use Rattle.plan_model.specs.declared.instructions.Instruction.TheVariants.{When}
use Rattle.sat_rows.proofs.WantedLaws.{front_at}
use Rattle.known_rows.specs.declared.column.Point.{Point}
use Rattle.known_rows.specs.declared.marks.Mark.{Mark}
use Rattle.known_rows.specs.Marks.{all_marks}
use Rattle.known_rows.specs.Points.{asked, point_number, IsPointAt, HasPoint, HasPlace, ArePoints}
use Rattle.known_rows.specs.Hits.{IsPointOf, HasPointOf}
use Rattle.known_rows.proofs.MarkLaws.{get-then, all_marks-long}
use Rattle.known_rows.proofs.MarkPlaces.{mark_at, in_all, all_back}

module _ (u : Universe) (p : Plan) (marks : List Mark) (ps : List Point)
    (marks_are : marks ≡ all_marks u p (length p)) (long : length ps ≡ length marks)
    (have : (k : ℕ) (mark : Mark) → slice_get marks k ≡ Some mark → HasPointOf u p ps k mark) where
  here : (l i : ℕ) (x : Instruction) (test : Variant → Bool) (of : Point)
      → instruction_at p l i ≡ Some x → asked u x ≡ Some test
      → IsPointOf u p (mark_at u p l i) of → IsPointAt u p l i test of
  here l i x test of at asks is =
      record {
        lane = is.lane;
        place = is.place;
        own = is.own;
        before = is.before;
        sources = is.sources x test at asks;
      }

  each : (l i : ℕ) (x : Instruction) (test : Variant → Bool) → l < length p
      → instruction_at p l i ≡ Some x → asked u x ≡ Some test → HasPoint u p ps l i test
  each l i x test lt at asks =
      let h =
      have (point_number p l i) (mark_at u p l i)
      (ap (λ ms. slice_get ms (point_number p l i)) marks_are ∙ in_all u p (length p) l i x test lt
      at asks) in
      record { point = h.point; at = h.at; is = here l i x test h.point at asks h.is }

  back : (w : ℕ) (of : Point) → slice_get ps w ≡ Some of → HasPlace u p w of
  back w of at =
      let lt = slice_get_within ps w of at in
      let mark = get_or marks w (mark_at u p 0 0) in
      let got = slice_get-get_or marks w (mark_at u p 0 0) (omega (arith, lt, long)) in
      let m = all_back u p (length p) w mark (ap (λ ms. slice_get ms w) (sym marks_are) ∙ got) in
      let h = have w mark got in
      let same : h.point ≡ of = same_Some h.point of (sym h.at ∙ at) in
      record {
        lane = m.in_lane_of;
        place = m.at_place;
        instruction = m.instruction;
        test = m.asks.test;
        below = m.below;
        there = m.there;
        asks = m.asks.is;
        number = m.number;
        is = here m.in_lane_of m.at_place m.instruction m.asks.test of m.there m.asks.is
            (subst (λ k. IsPointOf u p k of) m.is (subst (IsPointOf u p mark) same h.is));
      }

  pub points_are : ArePoints u p ps
  points_are =
      record {
        long = long ∙ ap length marks_are
            ∙ all_marks-long u p (length p);
        each = each;
        back = back;
      }

-- one more point
pub points_next : (u : Universe) (p : Plan) (marks : List Mark) (ps : List Point) (w : ℕ)
    (mark : Mark)
    (of : Point) → length ps ≡ w
    → ((k : ℕ) (m : Mark) → k < w → slice_get marks k ≡ Some m → HasPointOf u p ps k m)
    → slice_get marks w ≡ Some mark → IsPointOf u p mark of
    → (k : ℕ) (m : Mark) → k < w + 1 → slice_get marks k ≡ Some m
    → HasPointOf u p (ps ++ of ∷ []) k m
points_next u p marks ps w mark of long have at is k m lt at_k =
    elim (cases_eq k w) [
      | inl same ↦
          let m_is : mark ≡ m = same_Some mark m
          (sym at ∙ ap (slice_get marks) (sym same) ∙ at_k) in
          record {
            point = of;
            at = get-then ps (of ∷ []) k 0 (omega (arith, long, same));
            is = subst (λ z. IsPointOf u p z of) m_is is;
          }
      | inr other ↦
          let h = have k m (omega (arith, lt, other)) at_k in
          record { point = h.point; at = front_at ps (of ∷ []) k h.point h.at; is = h.is }
    ]

-- what a mark says
pub mark_facts : (u : Universe) (p : Plan) (marks : List Mark) (w : ℕ) (d : Mark)
    → marks ≡ all_marks u p (length p) → w < length marks
    → ((get_or marks w d).own ≡ outputs_before u (lane p (get_or marks w d).lane)
    (get_or marks w d).place 0)
    × ((get_or marks w d).lane < length p)
    × ((get_or marks w d).place < length (lane p (get_or marks w d).lane).instructions)
mark_facts u p marks w d marks_are lt =
    let got = slice_get-get_or marks w d lt in
    let m = all_back u p (length p) w (get_or marks w d)
    (ap (λ ms. slice_get ms w) (sym marks_are) ∙ got) in
    subst
    (λ (z : Mark). (z.own ≡ outputs_before u (lane p z.lane) z.place 0) × (z.lane < length p)
    × (z.place < length (lane p z.lane).instructions)) (sym m.is) (
      refl,
      m.below,
      slice_get_within (lane p m.in_lane_of).instructions m.at_place m.instruction
          m.there,
    )

-- the instruction that was read stands at the place
pub read_here : (p : Plan) (l i : ℕ) (xs : List Instruction) (d x : Instruction)
    → xs ≡ (lane p l).instructions → i < length xs → get_or xs i d ≡ x
    → instruction_at p l i ≡ Some x
read_here p l i xs d x are lt is =
    ap (λ ys. slice_get ys i) (sym are) ∙ slice_get-get_or xs i d lt ∙ ap Some is

-- what the instruction that was read looks for
pub asked_here : (u : Universe) (p : Plan) (l i : ℕ) (xs : List Instruction) (d x y : Instruction)
    (test : Variant → Bool) → xs ≡ (lane p l).instructions → i < length xs → get_or xs i d ≡ x
    → instruction_at p l i ≡ Some y → asked u y ≡ Some test → asked u x ≡ Some test
asked_here u p l i xs d x y test are lt is at asks =
    ap (asked u) (same_Some x y (sym (read_here p l i xs d x are lt is) ∙ at)) ∙ asks

-- a `when` speaks of a known name
pub when_named : (u : Universe) (p : Plan) (l i name : ℕ) (wanted : Option (Op × List ℕ))
    → IsSound u p → l < length p → instruction_at p l i ≡ Some (When name wanted) → name < names u
when_named u p l i name wanted sound lt at = sound.plan.instructions l i (When name wanted) lt at
