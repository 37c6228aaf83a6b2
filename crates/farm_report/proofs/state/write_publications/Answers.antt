use Rattle.std.proofs.Common.{arith, sym}
use Rattle.farm_report.specs.StateText.{published_text}
use Rattle.farm_report.proofs.StateLaws.{no_publication}
use Rattle.report_sink.proofs.ItemLaws.{next_written, last_written}
use Rattle.farm_report.proofs.state.write_publications.Goals as goal

pub loop-publication-preserved : goal.loop-publication-preserved
loop-publication-preserved g c =
    next_written (published_text c.args.universe.now c.args.plan.now.lanes) c.args.history.now
    c.loop-publication.publication-index no_publication
    (omega (arith, c.loop-publication-test.true)) _ _ _ c.loop-publication.invariant
    c.write_publication.ensures.written

pub returns-in_err-write_publication-clause-written :
    goal.returns-in_err-write_publication-clause-written
returns-in_err-write_publication-clause-written g c =
    last_written (published_text c.args.universe.now c.args.plan.now.lanes) c.args.history.now
    c.loop-publication.publication-index no_publication
    (omega (arith, c.loop-publication-test.true)) _ _ _ c.loop-publication.invariant
    c.write_publication.ensures.written (sym c.in_err-write_publication.ensures.told)
