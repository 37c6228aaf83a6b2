use Rattle.std.proofs.Common.{sym, ap, subst, ◌∙◌}
use Rattle.farm_model.specs.Chroot.{used}
use Rattle.farm_report.specs.AnswerLines.{at_line}
use Rattle.farm_report.proofs.StateLaws.{chroot_text}
use Rattle.report_sink.specs.Sinks.{IsWritten}
use Rattle.report_sink.proofs.WriteLaws.{written_twice, cut_short}
use Rattle.farm_report.proofs.state.write_lane_lines.Goals as goal

pub returns-in_err-write_at-clause-written : goal.returns-in_err-write_at-clause-written
returns-in_err-write_at-clause-written g c =
    let u = c.args.universe.now in
    let k = c.args.chroot.now in
    cut_short _ _ (at_line c.args.name.now c.args.done c.args.spent (used u k.slots))
    (chroot_text u k)
    (subst (IsWritten (g.S.Sink.state c.args.out.now) (g.S.Sink.state c.write_at.new.out))
    (ap (at_line c.args.name.now c.args.done c.args.spent) (c.used.ensures ∙ c.requires))
    c.write_at.ensures.written)
    (sym c.in_err-write_at.ensures.told)

pub returns-clause-written : goal.returns-clause-written
returns-clause-written g c =
    let u = c.args.universe.now in
    let k = c.args.chroot.now in
    written_twice _ _ _ (at_line c.args.name.now c.args.done c.args.spent (used u k.slots))
    (chroot_text u k)
    (subst (IsWritten (g.S.Sink.state c.args.out.now) (g.S.Sink.state c.write_at.new.out))
    (ap (at_line c.args.name.now c.args.done c.args.spent) (c.used.ensures ∙ c.requires))
    c.write_at.ensures.written)
    c.write_chroot.ensures.written
