-- What the greatest columns of the points say along a lane: no more than there are outputs, and
-- outside of branches ever more.
use Rattle.std.proofs.Common.{◌≡◌, ◌⊎◌, inl, inr, ℕ, zero, suc, ◌<◌, ◌≤◌, max, Bool, true, List, length, get_or, Some, slice_get, refl, sym, ap, subst, ◌∙◌, arith}
use Rattle.std.proofs.lemmas.Bool.{cases_eq, false≢true}
use Rattle.std.proofs.lemmas.Option.{slice_get-get_or, slice_get_within}
use Rattle.farm_model.specs.Universe.{Universe}
use Rattle.farm_model.specs.declared.types.Variant.{Variant}
use Rattle.plan_model.specs.Common.{Side, Outside, InFirst, InSecond, side_behind, side_behind_some, side_at, home, may_stand, Plan, lane, instruction_at, lane_outputs, outputs_before, row_before, IsSound}
use Rattle.plan_model.specs.declared.instructions.Instruction.{Instruction}
use Rattle.plan_model.specs.declared.instructions.Instruction.TheVariants.{Publish, When, Otherwise, EndWhen}
use Rattle.verdict_laws.proofs.Unions.{there}
use Rattle.verdict_laws.proofs.RowBefore.{row_before-le, each_place}
use Rattle.known_rows.specs.declared.column.Source.{Source}
use Rattle.known_rows.specs.declared.column.Point.{Point}
use Rattle.known_rows.specs.Column.{Counts, of_list, count_at, least, bound, IsPointBelow, ArePointsIn, IsGreatestColumn}
use Rattle.known_rows.specs.Points.{asked, one_point, point_number, last_point, IsNothing, IsSource, HasPoint, ArePoints}
use Rattle.known_rows.proofs.Falls.{greatest-exact}
use Rattle.known_rows.proofs.Numbering.{last-in, count-few}
use Rattle.known_rows.proofs.Asked.{Asks, quiet_or_asks, asks-one}
use Rattle.known_rows.proofs.Carried.{last-here, last-quiet, publish-home}
use Rattle.known_rows.proofs.Bounds.{least-le, bound-own, bound-other}

module _ (u : Universe) (p : Plan) (sound : IsSound u p) (ps : List Point)
    (points : ArePoints u p ps) where
  pub last-there : (h k : ℕ) → h < length p → IsPointBelow (length ps) (last_point p h k)
  last-there h k lt =
      subst (λ n. IsPointBelow n (last_point p h k)) (sym points.long) (last-in p h k lt)

  placed_source : (l i : ℕ) (test : Variant → Bool) (s : Source)
      → IsNothing u test s ⊎ IsSource u p l i test s → IsPointBelow (length ps) s.point
  placed_source l i test s (inl none) = subst (IsPointBelow (length ps)) (sym none.point) tt
  placed_source l i test s (inr one) =
      subst (IsPointBelow (length ps)) (sym one.point) (last-there s.lane one.place one.below)

  pub points_in : ArePointsIn (length ps) ps
  points_in k d lt =
      let of = get_or ps k d in
      let w = points.back k of (slice_get-get_or ps k d lt) in
      record {
        before = subst (IsPointBelow (length ps)) (sym w.is.before)
            (last-there w.lane w.place w.below);
        sources = λ n s n_lt.
            placed_source w.lane w.place w.test (get_or of.sources.items n s)
            (w.is.sources.sound n (get_or of.sources.items n s)
            (slice_get-get_or of.sources.items n s n_lt));
      }

  -- what is no point leaves the lane with the point of the place from which it goes on
  pub quiet-last : (l i : ℕ) (y : Instruction) → l < length p → instruction_at p l i ≡ Some y
      → one_point y ≡ 0 → last_point p l (suc i) ≡ last_point p l (row_before p l i y)
  quiet-last l i y lt at none = last-quiet p l (sound.plan.branched l lt) i y at none

  module _ (columns : ℕ → List ℕ)
      (greatest : (j : ℕ) → j < length p
      → IsGreatestColumn j (length (lane_outputs u (lane p j))) ps (columns j)) where
    abbrev counts : ℕ → Counts
    counts j = of_list (columns j)

    abbrev total : ℕ → ℕ
    total j = length (lane_outputs u (lane p j))

    -- how many outputs of lane j count where lane l stands
    abbrev at_last : ℕ → ℕ → ℕ → ℕ
    at_last j l i = count_at (counts j) (last_point p l i)

    -- what is known at a point
    pub at_point : (l i j : ℕ) (y : Instruction) (test : Variant → Bool) → j < length p
        → instruction_at p l i ≡ Some y → asked u y ≡ Some test → ((j ≡ l) → ⊥)
        → (at : HasPoint u p ps l i test) → at_last j l (suc i)
        ≤ max (at_last j l i) (least j (counts j) (total j) at.point.sources.items)
    at_point l i j y test j_lt is asks ne at =
        let here = ap (count_at (counts j)) (last-here p l i y is (asks-one u test y asks)) in
        let up = (greatest j j_lt).known (point_number p l i) at.point at.at in
        let limit = bound-other j (total j) (counts j) at.point
        (λ same. ne (sym same ∙ at.is.lane)) in
        let before = ap (count_at (counts j)) at.is.before in
        omega (arith, here, up, limit, before)

    -- counts are within the outputs of the lane
    abbrev IsFew : ℕ → ℕ → ℕ → Type 0
    IsFew l j i = i ≤ length (lane p l).instructions → at_last j l i ≤ total j

    few_at : (l j : ℕ) → l < length p → j < length p → ((j ≡ l) → ⊥) → (i : ℕ)
        → i ≤ length (lane p l).instructions → at_last j l i ≤ total j
    few_at l j lt j_lt ne = each_place (IsFew l j) (λ le. omega arith) next
      where
        by : (i : ℕ) (y : Instruction) → instruction_at p l i ≡ Some y
            → suc i ≤ length (lane p l).instructions → ((k : ℕ) → k ≤ i → IsFew l j k)
            → (one_point y ≡ 0) ⊎ Asks u y → at_last j l (suc i) ≤ total j
        by i y at le so_far (inl none) =
            let e = ap (count_at (counts j)) (quiet-last l i y lt at none) in
            let from = row_before-le p l i y in
            let few = so_far (row_before p l i y) from (omega (arith, from, le)) in
            omega (arith, e, few)
        by i y at le so_far (inr asks) =
            let has = points.each l i y asks.test lt at asks.is in
            let few = so_far i (omega arith) (omega (arith, le)) in
            omega (
              arith,
              at_point l i j y asks.test j_lt at asks.is ne has,
              few,
              least-le j (counts j) (total j) has.point.sources.items,
            )

        next : (i : ℕ) → ((k : ℕ) → k ≤ i → IsFew l j k) → IsFew l j (suc i)
        next i so_far le =
            let y = there p l i (omega (arith, le)) in
            by i y.0 y.1 le so_far (quiet_or_asks u y.0)

    bound_few : (j w : ℕ) (of : Point) → j < length p → slice_get ps w ≡ Some of
        → bound j (total j) (counts j) of ≤ total j
    bound_few j w of j_lt at =
        let is = points.back w of at in
        elim (cases_eq is.lane j) [
          | inl same ↦
              let a = bound-own j (total j) (counts j) of (is.is.lane ∙ same) in
              let b = is.is.own in
              let c = ap (λ k. outputs_before u (lane p k) is.place 0) same in
              let d = count-few u p j is.place in omega (arith, a, b, c, d)
          | inr other ↦
              let a = bound-other j (total j) (counts j) of (λ e. other (sym is.is.lane ∙ e)) in
              let b = ap (count_at (counts j)) is.is.before in
              let below = slice_get_within (lane p is.lane).instructions is.place is.instruction
              is.there in
              let c = few_at is.lane j is.below j_lt (λ e. other (sym e)) is.place
              (omega (arith, below)) in
              let d = least-le j (counts j) (total j) of.sources.items in
              omega (arith, a, b, c, d)
        ]

    -- a point knows all that is known ahead of it
    point_grows : (l i j : ℕ) (y : Instruction) → l < length p → j < length p
        → instruction_at p l i ≡ Some y → row_before p l i y ≡ i → ((j ≡ l) → ⊥)
        → (one_point y ≡ 0) ⊎ Asks u y → at_last j l i ≤ at_last j l (suc i)
    point_grows l i j y lt j_lt at row ne (inl none) =
        let e = ap (count_at (counts j)) (quiet-last l i y lt at none) in
        let f = ap (at_last j l) row in omega (arith, e, f)
    point_grows l i j y lt j_lt at row ne (inr asks) =
        let has = points.each l i y asks.test lt at asks.is in
        let here = ap (count_at (counts j)) (last-here p l i y at
        (asks-one u asks.test y asks.is)) in
        let exact =
        greatest-exact j (total j) ps (columns j) points_in
        (λ w of is. bound_few j w of j_lt is) (greatest j j_lt) (point_number p l i) has.point
        has.at in
        let limit = bound-other j (total j) (counts j) has.point
        (λ same. ne (sym same ∙ has.is.lane)) in
        let before = ap (count_at (counts j)) has.is.before in
        omega (arith, here, exact, limit, before)

    -- the place outside of all branches from which a lane went on
    abbrev home_at : ℕ → ℕ → ℕ
    home_at l i = home (side_at (lane p l).instructions i) i

    -- outside of branches what is known grows along the lane
    grows : (l i j : ℕ) → l < length p → j < length p → i < length (lane p l).instructions
        → ((j ≡ l) → ⊥) → at_last j l (home_at l i) ≤ at_last j l (home_at l (suc i))
    grows l i j lt j_lt i_lt ne =
        let y = there p l i i_lt in
        let next =
        ap (λ o. at_last j l (home (side_behind_some i (side_at (lane p l).instructions i) o)
        (suc i))) y.1 in
        let up =
        by (side_at (lane p l).instructions i) refl y.0 y.1
        ((sound.plan.branched l lt).stands i y.0 y.1) in
        omega (arith, next, up)
      where
        same : (s : Side) (y : Instruction) → instruction_at p l i ≡ Some y → row_before p l i y ≡ i
            → at_last j l (home s i) ≤ at_last j l (home s (suc i))
        same Outside y at row = point_grows l i j y lt j_lt at row ne (quiet_or_asks u y)
        same (InFirst w) y at row = omega arith
        same (InSecond w) y at row = omega arith

        opens : (s : Side) (y : Instruction) → may_stand s y ≡ true
            → ((w : ℕ) → may_stand (InFirst w) y ≡ true → ⊥)
            → ((w : ℕ) → may_stand (InSecond w) y ≡ true → ⊥)
            → at_last j l (home s i) ≤ at_last j l i
        opens Outside y stands first second = omega arith
        opens (InFirst w) y stands first second = absurd (first w stands)
        opens (InSecond w) y stands first second = absurd (second w stands)

        turns : (s : Side) → may_stand s Otherwise ≡ true
            → at_last j l (home s i) ≤ at_last j l (home (side_behind i s Otherwise) (suc i))
        turns Outside stands = absurd (false≢true stands)
        turns (InFirst w) stands = omega arith
        turns (InSecond w) stands = omega arith

        by : (s : Side) → side_at (lane p l).instructions i ≡ s → (y : Instruction)
            → instruction_at p l i ≡ Some y → may_stand s y ≡ true
            → at_last j l (home s i) ≤ at_last j l (home (side_behind i s y) (suc i))
        by s is (When name wanted) at stands =
            opens s (When name wanted) stands (λ w. false≢true) (λ w. false≢true)
        by s is Otherwise at stands = turns s stands
        by s is EndWhen at stands =
            let e = ap (count_at (counts j)) (quiet-last l i EndWhen lt at refl) in
            let f = ap (λ t. at_last j l (home t i)) is in omega (arith, e, f)
        by s is y at stands = same s y at refl

    mono : (l a b j : ℕ) → l < length p → j < length p → b ≤ length (lane p l).instructions
        → ((j ≡ l) → ⊥) → a ≤ b → at_last j l (home_at l a) ≤ at_last j l (home_at l b)
    mono l a zero j lt j_lt b_le ne le = let e : a ≡ 0 = omega (arith, le) in rw e (omega arith)
    mono l a (suc b) j lt j_lt b_le ne le =
        elim (cases_eq a (suc b)) [
          | inl same ↦ rw same (omega arith)
          | inr less ↦
              omega (
                arith,
                mono l a b j lt j_lt (omega (arith, b_le)) ne (omega (arith, le, less)),
                grows l b j lt j_lt (omega (arith, b_le)) ne,
              )
        ]

    -- a later publish knows all that an earlier one does
    pub publish_grows : (l a b q r j : ℕ) → l < length p → j < length p
        → instruction_at p l a ≡ Some (Publish q) → instruction_at p l b ≡ Some (Publish r)
        → ((j ≡ l) → ⊥) → a ≤ b → at_last j l a ≤ at_last j l b
    publish_grows l a b q r j lt j_lt at_a at_b ne le =
        let branched = sound.plan.branched l lt in
        let b_lt = slice_get_within (lane p l).instructions b (Publish r) at_b in
        let up = mono l a b j lt j_lt (omega (arith, b_lt)) ne le in
        let from = ap (at_last j l) (publish-home p l branched a q at_a) in
        let to = ap (at_last j l) (publish-home p l branched b r at_b) in
        omega (arith, up, from, to)
