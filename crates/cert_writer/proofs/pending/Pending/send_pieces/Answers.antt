use Rattle.cert_writer.proofs.SendingLaws.{none_sent}
use Rattle.cert_writer.proofs.pending.Pending.send_pieces.Goals as goal

pub returns-then-len-lt-PIECE : goal.returns-then-len-lt-PIECE
returns-then-len-lt-PIECE g c = none_sent _ c.args.self.now c.requires
