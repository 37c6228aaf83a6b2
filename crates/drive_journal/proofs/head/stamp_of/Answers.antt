use Rattle.std.specs.String.{string_bytes}
use Rattle.drive_journal.proofs.Stamps.{stamped}
use Rattle.drive_journal.proofs.head.stamp_of.Goals as goal

pub returns-clause-stamp : goal.returns-clause-stamp
returns-clause-stamp c =
    stamped string_bytes c.to_be_bytes.result c.args.nanoseconds c.encode.result
    c.to_be_bytes.ensures c.encode.ensures
