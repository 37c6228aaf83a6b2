use Rattle.std.proofs.Common.{◌≡◌, ℕ, ◌==◌, List, Option, length, sym, ap, subst, ◌∙◌, arith}
use Rattle.std.specs.Prelude.{if◌then◌else◌}
use Rattle.plan_model.specs.Plan.{Plan}
use Rattle.known_rows.specs.declared.marks.Past.{Past}
use Rattle.known_rows.specs.Column.{IsPointBelow, count_at}
use Rattle.known_rows.specs.Clock.{row_of}
use Rattle.known_rows.specs.Columns.{column_of, counts_of}
use Rattle.known_rows.specs.KnownRows.{KnownRows, rows_of}
use Rattle.known_rows.proofs.ClockRows.{clock_is, point_in}
use Rattle.known_rows.proofs.known.Known.clock.Goals as goal

pub returns-clause-rows : goal.returns-clause-rows
returns-clause-rows c =
    let u = c.self.inside.outputs.universe in
    let q = c.self.inside.outputs.plan in
    let columns = c.self.inside.columns.items in
    let l = c.args.number in
    let i = c.args.place in
    let past = c.past-past.result in
    let count : List (List ℕ) → ℕ → ℕ =
    λ cs j. if j == l then past.own else count_at (counts_of cs j) past.last in
    let same = ap count c.deref.ensures.value
    ∙ clock_is u q columns l i past.own past.last (ap (λ (w : Past). w.own) c.past-past.ensures)
    (ap (λ (w : Past). w.last) c.past-past.ensures) in
    subst (λ (k : KnownRows). row_of k.universe k.plan (count c.deref.result.now) ≡ rows_of k l i)
    c.self.view_is (ap (row_of u q) same)

pub returns-clause-fits : goal.returns-clause-fits
returns-clause-fits c =
    let u = c.self.inside.outputs.universe in
    let q = c.self.inside.outputs.plan in
    let columns = c.self.inside.columns.items in
    let of_plan = ap (λ (k : KnownRows). k.plan) c.self.view_is in
    let same : q ≡ c.args.self.now.plan = cc (of_plan, of_plan) in
    let long = ap (λ (p : Plan). length p) same in
    let last = ap (λ (w : Past). w.last) c.past-past.ensures in
    record {
      long = ap (λ (cs : List (List ℕ)). length cs) c.deref.ensures.value ∙ c.self.invariant.long
          ∙ long;
      there = λ j lt.
          subst (λ (cs : List (List ℕ)). IsPointBelow (length (column_of cs j))
          c.past-past.result.last)
          (sym c.deref.ensures.value)
          (subst (λ (o : Option ℕ). IsPointBelow (length (column_of columns j)) o) (sym last)
          (point_in u q columns c.args.number c.args.place c.self.invariant
          (omega (arith, c.requires.lane, long)) j (omega (arith, lt, long))));
    }
