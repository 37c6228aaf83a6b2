use Rattle.std.proofs.Common.{codes, length, sym}
use Rattle.std.specs.List.{flat_map, range_with_len}
use Rattle.farm_report.specs.RunText.{lane_end_text}
use Rattle.farm_report.specs.StateText.{published_text}
use Rattle.report_sink.proofs.WriteLaws.{written_twice, cut_short}
use Rattle.farm_report.proofs.finished.write_run.Goals as goal

pub returns-in_err-write_text-clause-written : goal.returns-in_err-write_text-clause-written
returns-in_err-write_text-clause-written g c =
    cut_short _ _ (codes "finished\n") _ c.write_text.ensures.written
    (sym c.in_err-write_text.ensures.told)

pub returns-in_err-write_publications-clause-written :
    goal.returns-in_err-write_publications-clause-written
returns-in_err-write_publications-clause-written g c =
    written_twice _ _ _ (codes "finished\n") _ c.write_text.ensures.written
    (cut_short _ _ (flat_map (published_text c.args.universe.now c.args.plan.now.lanes)
    c.args.history.now) _ c.write_publications.ensures.written
    (sym c.in_err-write_publications.ensures.told))

pub returns-clause-written : goal.returns-clause-written
returns-clause-written g c =
    written_twice _ _ _ (codes "finished\n") _ c.write_text.ensures.written
    (written_twice _ _ _ (flat_map (published_text c.args.universe.now c.args.plan.now.lanes)
    c.args.history.now)
    (flat_map (lane_end_text c.args.universe.now c.args.plan.now.lanes c.args.chroots.now
    c.args.spent.now) (range_with_len 0 (length c.args.plan.now.lanes)))
    c.write_publications.ensures.written c.write_lane_ends.ensures.written)
