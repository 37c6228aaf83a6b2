use Rattle.std.proofs.Common.{[], ◌∷◌, sym}
use Rattle.std.specs.Prelude.{codes}
use Rattle.deb_text.specs.Lists.{lists}
use Rattle.drive_protocol.specs.RequestText.{head_text, asked_words}
use Rattle.report_sink.proofs.SeriesLaws.{first_fails, second_fails, three_written}
use Rattle.drive_protocol.proofs.request.write_instruction.Goals as goal

pub returns-in_err-write_head-clause-written : goal.returns-in_err-write_head-clause-written
returns-in_err-write_head-clause-written g c =
    let h = c.args.head in
    first_fails (head_text h.again h.lane.now h.number h.chroot.now) _ _
    c.write_head.ensures.written
    (asked_words c.args.universe.now (lists c.args.recipes.now) c.args.chroot.now.slots
    c.args.instruction.now ∷ codes "\n" ∷ [])
    (sym c.in_err-write_head.ensures.told)

pub returns-in_err-write_asked-clause-written : goal.returns-in_err-write_asked-clause-written
returns-in_err-write_asked-clause-written g c =
    let h = c.args.head in
    second_fails (head_text h.again h.lane.now h.number h.chroot.now) _ _
    c.write_head.ensures.written
    (asked_words c.args.universe.now (lists c.args.recipes.now) c.args.chroot.now.slots
    c.args.instruction.now)
    _ c.write_asked.ensures.written (codes "\n" ∷ []) (sym c.in_err-write_asked.ensures.told)

pub returns-clause-written : goal.returns-clause-written
returns-clause-written g c =
    let h = c.args.head in
    three_written (head_text h.again h.lane.now h.number h.chroot.now) _ _
    c.write_head.ensures.written
    (asked_words c.args.universe.now (lists c.args.recipes.now) c.args.chroot.now.slots
    c.args.instruction.now)
    _ c.write_asked.ensures.written (codes "\n") _ c.write_text.ensures.written
