use Rattle.std.proofs.Common.{refl}
use Rattle.plan_verifier.specs.Accepted.{known_rows}
use Rattle.cert_writer.proofs.SendingLaws.{put_on, refused}
use Rattle.cert_writer.proofs.writer.write_known.Goals as goal
use Rattle.cert_writer.specs.Lines.{row_text}

pub returns-in-Ok-clause-sent : goal.returns-in-Ok-clause-sent
returns-in-Ok-clause-sent g c =
    let a = c.args.accepted.now in
    put_on (g.S.Sink.state c.args.out.now) (g.S.Sink.state c.send_pieces.new.out) c.args.pending.now
    (record { text = c.push_known.new.text; sent = c.args.pending.now.sent }) c.send_pieces.new.self
    (row_text a.universe a.plan (known_rows a) c.args.number c.args.carried.now.place)
    c.send_pieces.result c.in-Ok.ensures.text refl c.send_pieces.ensures

pub returns-in-Err-clause-sent : goal.returns-in-Err-clause-sent
returns-in-Err-clause-sent g c =
    let a = c.args.accepted.now in
    refused (g.S.Sink.state c.args.out.now) c.args.pending.now c.args.pending.now.sent
    (row_text a.universe a.plan (known_rows a) c.args.number c.args.carried.now.place)
    c.no_memory.result c.requires.going refl c.no_memory.ensures
