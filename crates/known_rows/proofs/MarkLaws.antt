-- The list of points, and the outputs of a lane.
use Rattle.std.proofs.Common.{◌≡◌, ℕ, zero, suc, ◌+◌, ◌<◌, ◌≤◌, List, [], ◌∷◌, ◌++◌, length, map, Option, Some, slice_get, refl, sym, ap, subst, ◌∙◌, arith, append_assoc}
use Rattle.std.proofs.lemmas.List.{length-append, length-map, take_all}
use Rattle.std.proofs.lemmas.Option.{slice_get_within}
use Rattle.farm_model.specs.Universe.{Universe}
use Rattle.plan_model.specs.Plan.{Plan, lane, instruction_at, outputs_of, outputs_before}
use Rattle.plan_model.specs.declared.instructions.Instruction.{Instruction}
use Rattle.plan_model.specs.declared.instructions.Instruction.TheVariants.{Wait, When}
use Rattle.verdict_laws.proofs.Unions.{there}
use Rattle.known_rows.specs.declared.marks.Mark.{Mark}
use Rattle.known_rows.specs.declared.marks.Output.{Output}
use Rattle.known_rows.specs.Marks.{output_with, marks_of, marks_at, lane_marks, all_marks, outputs_at, outputs_with_points}
use Rattle.known_rows.specs.declared.marks.LastPoints.{LastPoints}
use Rattle.known_rows.specs.Points.{one_point, point_count, points_before, first_point, point_number, last_after, lasts_at, last_point}
use Rattle.known_rows.proofs.Numbering.{points-next, lasts-next, count-next, count-start}

-- elements of the second of two lists, one behind the other
pub get-then : {X : Type 0} (xs ys : List X) (n k : ℕ) → n ≡ length xs + k
    → slice_get (xs ++ ys) n ≡ slice_get ys k
get-then [] ys n k e = ap (slice_get ys) (let g : n ≡ k = omega (arith, e) in g)
get-then (x ∷ xs) ys zero k e = absurd (omega (arith, e))
get-then (x ∷ xs) ys (suc n) k e = get-then xs ys n k (omega (arith, e))

marks_of-long : (x : Instruction) (l i own : ℕ) (last : Option ℕ)
    → length (marks_of x l i own last) ≡ one_point x
marks_of-long (Wait e) l i own last = refl
marks_of-long (When name wanted) l i own last = refl
marks_of-long _ l i own last = refl

module _ (u : Universe) (p : Plan) where
  at-is : (l i : ℕ) (x : Instruction) → instruction_at p l i ≡ Some x
      → lane_marks u p l (suc i) ≡ lane_marks u p l i ++ marks_of x l i
      (outputs_before u (lane p l) i 0)
      (last_point p l i)
  at-is l i x at = ap (λ o. lane_marks u p l i ++ marks_at u p l i o) at

  pub lane_marks-long : (l i : ℕ) → i ≤ length (lane p l).instructions
      → length (lane_marks u p l i) ≡ points_before p l i
  lane_marks-long l zero le = refl
  lane_marks-long l (suc i) le =
      let x = there p l i (omega (arith, le)) in
      let a = ap length (at-is l i x.0 x.1) in
      let b = length-append (lane_marks u p l i) (marks_of x.0 l i (outputs_before u (lane p l) i 0)
      (last_point p l i)) in
      let c = marks_of-long x.0 l i (outputs_before u (lane p l) i 0) (last_point p l i) in
      omega (arith, a, b, c, points-next p l i x.0 x.1, lane_marks-long l i (omega (arith, le)))

  pub all_marks-long : (l : ℕ) → length (all_marks u p l) ≡ first_point p l
  all_marks-long zero = refl
  all_marks-long (suc l) =
      let n = length (lane p l).instructions in
      let a = length-append (all_marks u p l) (lane_marks u p l n) in
      let b = lane_marks-long l n (omega arith) in
      let c = whole l in
      omega (arith, a, b, c, all_marks-long l)
    where
      whole : (l : ℕ) → points_before p l (length (lane p l).instructions) ≡ point_count
          (lane p l).instructions
      whole l = ap point_count (take_all (length (lane p l).instructions) (lane p l).instructions
          (omega arith))

  pub outputs_with_points-long : (l i : ℕ) → i ≤ length (lane p l).instructions
      → length (outputs_with_points u p l i) ≡ outputs_before u (lane p l) i 0
  outputs_with_points-long l zero le = sym (count-start u p l)
  outputs_with_points-long l (suc i) le =
      let x = there p l i (omega (arith, le)) in
      let a = ap (λ o. length (outputs_with_points u p l i ++ outputs_at u p l i o)) x.1 in
      let b = length-append (outputs_with_points u p l i) (map (output_with (last_point p l i))
      (outputs_of u x.0)) in
      let c = length-map (outputs_of u x.0) (output_with (last_point p l i)) in
      omega (
        arith,
        a,
        b,
        c,
        count-next u p l i x.0 x.1,
        outputs_with_points-long l i
            (omega (arith, le)),
      )

  -- one more instruction of a lane, with all that is kept on the way
  pub record IsPassed (l i : ℕ) (marks : List Mark) (outs : List Output) (last : LastPoints)
      : Type 0 where
    pub marks_are : marks ≡ all_marks u p l ++ lane_marks u p l i
    pub outputs_are : outs ≡ outputs_with_points u p l i
    pub last_is : last ≡ lasts_at p l i

  pub passed : (l i : ℕ) (x : Instruction) (marks next_marks : List Mark)
      (outs next_outs : List Output)
      (last next_last : LastPoints) → instruction_at p l i ≡ Some x → IsPassed l i marks outs last
      → next_last ≡ last_after x (length marks) last
      → next_marks ≡ marks ++ marks_of x l i (length outs) last.here
      → next_outs ≡ outs ++ map (output_with last.here) (outputs_of u x)
      → IsPassed l (i + 1) next_marks next_outs next_last
  passed l i x marks next_marks outs next_outs last next_last at so_far last_e marks_e outs_e =
      subst (λ k. IsPassed l k next_marks next_outs next_last)
      (let e : suc i ≡ i + 1 = omega arith in e) (record {
        marks_are = marks_e ∙ ap (λ n. marks ++ marks_of x l i n last.here) own
            ∙ ap (λ (o : LastPoints). marks ++ marks_of x l i (outputs_before u (lane p l) i 0)
            o.here)
            so_far.last_is
            ∙ ap (λ ws. ws ++ new) so_far.marks_are
            ∙ append_assoc (all_marks u p l) (lane_marks u p l i) new
            ∙ ap (λ ws. all_marks u p l ++ ws) (sym (at-is l i x at));
        outputs_are = outs_e ∙ ap (λ (o : LastPoints). outs ++ map (output_with o.here)
            (outputs_of u x)) so_far.last_is
            ∙ ap (λ os. os ++ map (output_with (last_point p l i)) (outputs_of u x))
            so_far.outputs_are
            ∙ ap (λ o. outputs_with_points u p l i ++ outputs_at u p l i o) (sym at);
        last_is = last_e ∙ ap (λ o. last_after x (length marks) o) so_far.last_is
            ∙ ap (λ n. last_after x n (lasts_at p l i)) number
            ∙ sym (lasts-next p l i x at);
      })
    where
      below : i < length (lane p l).instructions
      below = slice_get_within (lane p l).instructions i x at

      own : length outs ≡ outputs_before u (lane p l) i 0
      own = ap length so_far.outputs_are ∙ outputs_with_points-long l i (omega (arith, below))

      new : List Mark
      new = marks_of x l i (outputs_before u (lane p l) i 0) (last_point p l i)

      number : length marks ≡ point_number p l i
      number =
          let a = ap length so_far.marks_are in
          let b = length-append (all_marks u p l) (lane_marks u p l i) in
          omega (arith, a, b, all_marks-long l, lane_marks-long l i (omega (arith, below)))
