use Rattle.std.proofs.Common.{[], ◌∷◌, length, sym}
use Rattle.std.specs.Prelude.{codes}
use Rattle.std.specs.List.{flat_map, range_with_len}
use Rattle.plan_model.specs.Plan.{count}
use Rattle.report_sink.proofs.SeriesLaws.{first_fails, second_fails, third_fails, four_written}
use Rattle.farm_report.specs.AnswerLines.{counted_line}
use Rattle.farm_report.specs.VerdictText.{cost_line}
use Rattle.farm_report.proofs.verdict.write_accepted.Goals as goal

pub returns-in_err-write_text-clause-written : goal.returns-in_err-write_text-clause-written
returns-in_err-write_text-clause-written g c =
    let a = c.args.accepted.now in
    first_fails (codes "accepted\n") _ _ c.write_text.ensures.written
    (counted_line (codes "lanes") (length a.plan)
    ∷ counted_line (codes "count") (count a.universe a.plan)
    ∷ flat_map (cost_line a) (range_with_len 0 (length a.plan)) ∷ [])
    (sym c.in_err-write_text.ensures.told)

pub returns-in_err-write_counted-clause-written : goal.returns-in_err-write_counted-clause-written
returns-in_err-write_counted-clause-written g c =
    let a = c.args.accepted.now in
    second_fails (codes "accepted\n") _ _ c.write_text.ensures.written
    (counted_line (codes "lanes") (length a.plan)) _
    (rw (c.lanes.ensures.lanes, c.plan-plan.ensures.lanes) at c.write_counted.ensures.written)
    (counted_line (codes "count") (count a.universe a.plan)
    ∷ flat_map (cost_line a) (range_with_len 0 (length a.plan)) ∷ [])
    (sym c.in_err-write_counted.ensures.told)

pub returns-in_err-write_counted-2-clause-written :
    goal.returns-in_err-write_counted-2-clause-written
returns-in_err-write_counted-2-clause-written g c =
    let a = c.args.accepted.now in
    third_fails (codes "accepted\n") _ _ c.write_text.ensures.written
    (counted_line (codes "lanes") (length a.plan)) _
    (rw (c.lanes.ensures.lanes, c.plan-plan.ensures.lanes) at c.write_counted.ensures.written)
    (counted_line (codes "count") (count a.universe a.plan)) _
    (rw (c.count.ensures, c.plan-plan.ensures.counted) at c.write_counted-2.ensures.written)
    (flat_map (cost_line a) (range_with_len 0 (length a.plan)) ∷ [])
    (sym c.in_err-write_counted-2.ensures.told)

pub returns-clause-written : goal.returns-clause-written
returns-clause-written g c =
    let a = c.args.accepted.now in
    four_written (codes "accepted\n") _ _ c.write_text.ensures.written
    (counted_line (codes "lanes") (length a.plan)) _
    (rw (c.lanes.ensures.lanes, c.plan-plan.ensures.lanes) at c.write_counted.ensures.written)
    (counted_line (codes "count") (count a.universe a.plan)) _
    (rw (c.count.ensures, c.plan-plan.ensures.counted) at c.write_counted-2.ensures.written)
    (flat_map (cost_line a) (range_with_len 0 (length a.plan))) _ c.write_lanes.ensures.written
