-- The greatest clocks have the greatest rows.
use Rattle.std.proofs.Common.{◌≡◌, inl, inr, ℕ, ◌<◌, ◌≤◌, true, length, take, arith}
use Rattle.std.proofs.lemmas.Bool.{or_cases, or_left, or_right}
use Rattle.farm_model.specs.Common.{Universe, contains, initial}
use Rattle.farm_model.specs.declared.types.Variant.{Variant}
use Rattle.farm_model.proofs.BelowLaws.{some_below-at, some_below-found}
use Rattle.plan_model.specs.Plan.{Plan, lane, lane_outputs}
use Rattle.verdict_laws.specs.Clocks.{Clocks, clock_rows, clocks_of, GreatestClocksAreGreatest}
use Rattle.verdict_laws.proofs.Sets.{take-found, take-at, clocks_keep_rows}
use Rattle.verdict_laws.proofs.Above.{rows_have_clocks}
use Rattle.verdict_laws.proofs.Unique.{outputs_are_unique}

-- more is known by clocks that know more
pub clock_rows-mono : (u : Universe) (p : Plan) (y x : Clocks) (l i : ℕ) (v : Variant)
    → ((j : ℕ) → j < length p → y l i j ≤ x l i j) → clock_rows u p y l i v ≡ true
    → clock_rows u p x l i v ≡ true
clock_rows-mono u p y x l i v le e =
    elim (or_cases (initial u v) _ e) [
      | inl is ↦ or_left (initial u v) _ is
      | inr some ↦
          let f =
          some_below-found (length p) (λ j. contains (take (y l i j) (lane_outputs u (lane p j))) v)
          some in
          let t = take-found (y l i f.0) (lane_outputs u (lane p f.0)) v f.2 in
          or_right (initial u v) _
          (some_below-at (length p) (λ j. contains (take (x l i j) (lane_outputs u (lane p j))) v)
          f.0 f.1
          (take-at (x l i f.0) (lane_outputs u (lane p f.0)) v t.0 (omega (arith, t.1, le f.0 f.1))
          t.2 t.3))
    ]

pub greatest_clocks_are_greatest : GreatestClocksAreGreatest
greatest_clocks_are_greatest u p x sound keeps above =
    record {
      keeps = clocks_keep_rows u p x keeps;
      greatest = λ other kept l i v lt le e.
          let clocks = rows_have_clocks u p other (outputs_are_unique u p sound) kept in
          clock_rows-mono u p (clocks_of u p other) x l i v
          (λ j j_lt. above (clocks_of u p other) clocks.0 l i j lt le j_lt)
          (clocks.1 l i v lt le e);
    }
