use Rattle.std.proofs.Common.{sym, arith}
use Rattle.std.proofs.lemmas.Result.{err_from_is_err_and}
use Rattle.cert_writer.proofs.Whole.{had_failed, not_begun, all_written, stopped_written}
use Rattle.cert_writer.proofs.writer.write_certificate.Goals as goal

pub returns-in_err-whether_written : goal.returns-in_err-whether_written
returns-in_err-whether_written g c =
    let e = err_from_is_err_and c.from_residual.result c.from_residual.ensures.1 in
    rw (e.1, e.2)
    (had_failed c.args.accepted.now c.keeps.ensures (g.S.Sink.state c.args.out.now)
    (sym c.in_err-whether_written.ensures))

pub returns-in_default : goal.returns-in_default
returns-in_default g c =
    not_begun c.args.accepted.now c.keeps.ensures (g.S.Sink.state c.args.out.now)

pub returns-in_default-new : goal.returns-in_default-new
returns-in_default-new g c =
    not_begun c.args.accepted.now c.keeps.ensures (g.S.Sink.state c.args.out.now)

pub returns-in_err-write_lines : goal.returns-in_err-write_lines
returns-in_err-write_lines g c =
    let e = err_from_is_err_and c.from_residual-in_err-write_lines.result
    c.from_residual-in_err-write_lines.ensures.1 in
    rw (e.1, e.2)
    (stopped_written c.args.accepted.now c.keeps.ensures (g.S.Sink.state c.args.out.now)
    (g.S.Sink.state c.write_lines.new.out) c.in-Ok.pending c.write_lines.new.pending
    c.in-Ok.ensures.text _ c.in_err-write_lines.ensures.sent)

pub returns : goal.returns
returns g c =
    all_written c.args.accepted.now c.keeps.ensures (g.S.Sink.state c.args.out.now)
    (g.S.Sink.state c.write_lines.new.out) c.in-Ok.pending c.write_lines.new.pending
    c.in-Ok.ensures.text c.bytes_sent-count.result c.in-Ok.ensures.sent
    c.in_ok-write_lines.ensures.sent c.in_ok-write_lines.ensures.all c.bytes_sent-count.ensures
    (omega (arith, c.bytes_sent-count.type_inv))
