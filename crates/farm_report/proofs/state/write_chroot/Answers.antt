use Rattle.std.proofs.Common.{arith, sym}
use Rattle.farm_model.specs.Chroot.{slot}
use Rattle.farm_report.specs.StateText.{held_text}
use Rattle.report_sink.proofs.ItemLaws.{next_below, last_below}
use Rattle.farm_report.proofs.state.write_chroot.Goals as goal

pub loop-name-preserved : goal.loop-name-preserved
loop-name-preserved g c =
    next_below (λ n. held_text c.args.universe.now n (slot c.args.chroot.now.slots n))
    c.loop-name.name _ _ _ c.loop-name.invariant c.write_held.ensures.written

pub returns-in_err-write_held-clause-written : goal.returns-in_err-write_held-clause-written
returns-in_err-write_held-clause-written g c =
    last_below (λ n. held_text c.args.universe.now n (slot c.args.chroot.now.slots n))
    c.loop-name.name _ _ _ c.loop-name.invariant c.write_held.ensures.written _
    (omega (arith, c.loop-name-test.true, c.names-name-end.ensures.number))
    (sym c.in_err-write_held.ensures.told)
