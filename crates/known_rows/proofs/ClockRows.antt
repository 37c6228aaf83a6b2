-- Rows of clocks, lane by lane.
use Rattle.std.proofs.Common.{◌≡◌, ℕ, ◌+◌, ◌<◌, ◌==◌, Bool, true, false, ◌||◌, List, [], ◌∷◌, length, map, take, min, Option, refl, sym, ap, subst, ◌∙◌, arith, add-one}
use Rattle.std.specs.Prelude.{if◌then◌else◌}
use Rattle.std.specs.List.{list_any}
use Rattle.std.proofs.Math.Bool.{or-false}
use Rattle.std.proofs.lemmas.List.{take_all, take_min, take-map}
use Rattle.farm_model.specs.Common.{some_below, Universe, same, contains}
use Rattle.farm_model.specs.declared.types.Variant.{Variant}
use Rattle.plan_model.specs.Plan.{Plan, lane, lane_outputs, outputs_before}
use Rattle.verdict_laws.proofs.Made.{made}
use Rattle.sat_rows.specs.Rows.{IsRowOf}
use Rattle.known_rows.specs.declared.marks.Output.{Output}
use Rattle.known_rows.specs.Column.{count_at, IsPointBelow}
use Rattle.known_rows.specs.Columns.{column_of, counts_of}
use Rattle.known_rows.specs.KnownRows.{HasCounts}
use Rattle.known_rows.specs.Marks.{outputs_with_points}
use Rattle.known_rows.specs.Points.{last_point, clock_of}
use Rattle.known_rows.proofs.Numbering.{last-in}
use Rattle.known_rows.proofs.RowSteps.{variant_of, outputs-made}
use Rattle.known_rows.proofs.ArchiveRows.{row_same}

-- an output among these is this variant
abbrev pub any_output : List Output → Variant → Bool
any_output os v = list_any (λ o. same o.variant v) os

any-variants : (os : List Output) (v : Variant) → any_output os v ≡ contains (map variant_of os) v
any-variants [] v = refl
any-variants (o ∷ os) v = ap (λ b. same o.variant v || b) (any-variants os v)

-- all that were asked for
pub all-first : (os : List Output) (n count total : ℕ) (v : Variant) → n ≡ min count total
    → total ≡ length os → any_output (take n os) v ≡ any_output (take count os) v
all-first os n count total v is long =
    ap (λ k. any_output (take k os) v) (is ∙ ap (min count) long)
    ∙ ap (λ xs. any_output xs v) (take_min count os)

module _ (u : Universe) (p : Plan) where
  -- the first outputs of a lane
  pub first-made : (j count : ℕ) (os : List Output) (v : Variant)
      → os ≡ outputs_with_points u p j (length (lane p j).instructions)
      → any_output (take count os) v ≡ contains (take count (lane_outputs u (lane p j))) v
  first-made j count os v are =
      any-variants (take count os) v
      ∙ ap (λ vs. contains vs v) (sym (take-map variant_of count os))
      ∙ ap (λ vs. contains (take count vs) v)
      (ap (map variant_of) are
      ∙ outputs-made u p j (length (lane p j).instructions) (omega arith)
      ∙ ap (made u)
      (take_all (length (lane p j).instructions) (lane p j).instructions (omega arith)))

  module _ (start : Variant → Bool) (x : ℕ → ℕ) where
    -- what was there, and of the lanes so far
    abbrev pub so_far : ℕ → Variant → Bool
    so_far n v = start v || some_below n (λ j. contains (take (x j) (lane_outputs u (lane p j))) v)

    swapped : (a b c : Bool) → ((a || b) || c) ≡ (a || (c || b))
    swapped true b c = refl
    swapped false true true = refl
    swapped false true false = refl
    swapped false false c = sym (or-false c)

    pub with_lane : (n count : ℕ) (os : List Output) (row : List ℕ)
        → os ≡ outputs_with_points u p n (length (lane p n).instructions) → count ≡ x n
        → IsRowOf u (λ v. so_far n v || any_output (take count os) v) row
        → IsRowOf u (so_far (n + 1)) row
    with_lane n count os row are is row_is =
        row_same u _ _ row
        (λ v. ap (λ b. so_far n v || b)
        (first-made n count os v are ∙ ap (λ k. contains (take k (lane_outputs u (lane p n))) v) is)
        ∙ swapped (start v) _ _
        ∙ ap (λ k. start v || some_below k
        (λ j. contains (take (x j) (lane_outputs u (lane p j))) v))
        (sym (add-one n)))
        row_is

    pub all_lanes : (n : ℕ) (row : List ℕ) → n ≡ length p → IsRowOf u (so_far n) row
        → IsRowOf u (so_far (length p)) row
    all_lanes n row end is = subst (λ k. IsRowOf u (so_far k) row) end is

  -- the point of a place has a count in each column
  pub point_in : (columns : List (List ℕ)) (l i : ℕ) → HasCounts p columns → l < length p
      → (j : ℕ) → j < length p → IsPointBelow (length (column_of columns j)) (last_point p l i)
  point_in columns l i has lt j j_lt =
      subst (λ n. IsPointBelow n (last_point p l i)) (sym (has.each j j_lt)) (last-in p l i lt)

  -- the clock of a place
  pub clock_is : (columns : List (List ℕ)) (l i own : ℕ) (last : Option ℕ)
      → own ≡ outputs_before u (lane p l) i 0 → last ≡ last_point p l i
      → (λ j. if j == l then own else count_at (counts_of columns j) last)
      ≡ clock_of u p (counts_of columns) l i
  clock_is columns l i own last own_is last_is =
      let by_own : ℕ → ℕ → ℕ =
      λ n j. if j == l then n else count_at (counts_of columns j) last in
      let by_last : Option ℕ → ℕ → ℕ =
      λ o j. if j == l then outputs_before u (lane p l) i 0 else count_at (counts_of columns j) o in
      ap by_own own_is ∙ ap by_last last_is
