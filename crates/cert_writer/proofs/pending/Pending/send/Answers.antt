use Rattle.cert_writer.proofs.SendingLaws.{none_sent}
use Rattle.cert_writer.proofs.pending.Pending.send.Goals as goal

pub returns-then-is_empty-clause-sent : goal.returns-then-is_empty-clause-sent
returns-then-is_empty-clause-sent g c = none_sent _ c.args.self.now c.requires
