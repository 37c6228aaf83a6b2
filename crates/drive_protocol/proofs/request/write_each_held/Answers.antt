use Rattle.std.proofs.Common.{arith, sym}
use Rattle.farm_model.specs.Chroot.{slot}
use Rattle.drive_protocol.specs.RequestText.{held_words}
use Rattle.report_sink.proofs.ItemLaws.{next_written, last_written}
use Rattle.drive_protocol.proofs.request.write_each_held.Goals as goal

pub loop-name-preserved : goal.loop-name-preserved
loop-name-preserved g c =
    next_written (λ n. held_words c.args.universe.now n (slot c.args.chroot.now.slots n))
    c.args.members.now c.loop-name.name-index 0
    (omega (arith, c.loop-name-test.true)) _ _ _ c.loop-name.invariant
    c.write_held.ensures.written

pub returns-in_err-write_held-clause-written : goal.returns-in_err-write_held-clause-written
returns-in_err-write_held-clause-written g c =
    last_written (λ n. held_words c.args.universe.now n (slot c.args.chroot.now.slots n))
    c.args.members.now c.loop-name.name-index 0
    (omega (arith, c.loop-name-test.true)) _ _ _ c.loop-name.invariant
    c.write_held.ensures.written (sym c.in_err-write_held.ensures.told)
