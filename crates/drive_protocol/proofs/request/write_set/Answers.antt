use Rattle.std.proofs.Common.{sym}
use Rattle.drive_protocol.specs.RequestText.{members_words}
use Rattle.report_sink.proofs.WriteLaws.{written_twice, cut_short}
use Rattle.drive_protocol.proofs.request.write_set.Goals as goal

pub returns-in_err-write_text-clause-written : goal.returns-in_err-write_text-clause-written
returns-in_err-write_text-clause-written g c =
    cut_short _ _ c.args.word.now
    (members_words c.args.universe.now c.args.chroot.now.slots c.args.members.now)
    c.write_text.ensures.written (sym c.in_err-write_text.ensures.told)

pub returns-clause-written : goal.returns-clause-written
returns-clause-written g c =
    written_twice _ _ _ c.args.word.now
    (members_words c.args.universe.now c.args.chroot.now.slots c.args.members.now)
    c.write_text.ensures.written
    (rw c.as_slice.ensures at c.write_each_held.ensures.written)
