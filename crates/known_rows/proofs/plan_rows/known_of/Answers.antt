use Rattle.std.proofs.Common.{◌≡◌, ℕ, List, sym, ap, subst, ◌∙◌}
use Rattle.farm_model.specs.Universe.{Universe}
use Rattle.plan_model.specs.Common.{IsGreatest, Plan}
use Rattle.known_rows.specs.Columns.{column_of}
use Rattle.known_rows.specs.KnownRows.{KnownRows, rows_of, HasCounts}
use Rattle.known_rows.proofs.Linked.{rows_are_greatest}
use Rattle.known_rows.proofs.plan_rows.known_of.Goals as goal

make : Universe → Plan → List (List ℕ) → KnownRows
make u p columns = record { universe = u; plan = p; columns = columns }

pub new-requires : goal.new-requires
new-requires c =
    let columns = c.args.columns.items in
    let are = c.requires.columns.are_columns in
    let points = c.requires.columns.are_points.long in
    subst (λ q. HasCounts q columns) (sym c.in_ok-outputs.ensures.plan)
    (record {
      long = are.long;
      each = λ j lt. (are.each j lt).long ∙ points;
    })

pub returns-clause-greatest : goal.returns-clause-greatest
unfolding make
returns-clause-greatest c =
    let u = c.args.universe.now in
    let p = c.args.plan.now.lanes in
    let columns = c.args.columns.items in
    let have = c.requires.columns in
    let outputs = c.in_ok-outputs.outputs in
    let known : c.new.result ≡ make u p columns =
    c.new.ensures ∙ ap (λ w. make w outputs.plan columns) c.in_ok-outputs.ensures.universe
    ∙ ap (λ q. make u q columns) c.in_ok-outputs.ensures.plan in
    subst (λ k. IsGreatest u p (rows_of k)) (sym known)
    (rows_are_greatest u p c.requires.sound have.points have.are_points (column_of columns)
    have.are_columns.each)
