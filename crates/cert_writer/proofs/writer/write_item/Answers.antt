use Rattle.std.proofs.Common.{refl}
use Rattle.cert_text.specs.Printed.{order_line}
use Rattle.cert_writer.proofs.SendingLaws.{put_on, refused}
use Rattle.cert_writer.proofs.writer.write_item.Goals as goal

pub returns-in-Ok : goal.returns-in-Ok
returns-in-Ok g c =
    put_on (g.S.Sink.state c.args.out.now) (g.S.Sink.state c.send_pieces.new.out) c.args.pending.now
    (record { text = c.push_order.new.text; sent = c.args.pending.now.sent }) c.send_pieces.new.self
    (order_line c.args.accepted.now.plan c.args.number) c.send_pieces.result c.in-Ok.ensures refl
    c.send_pieces.ensures

pub returns-in-Err : goal.returns-in-Err
returns-in-Err g c =
    refused (g.S.Sink.state c.args.out.now) c.args.pending.now c.args.pending.now.sent
    (order_line c.args.accepted.now.plan c.args.number) c.no_memory.result c.requires.going refl
    c.no_memory.ensures
