use Rattle.deb_stanza.proofs.PackedLaws.{kept_long}
use Rattle.deb_stanza.proofs.names.Names.insert.Goals as goal

pub returns-in_ok-is_new-3-clause-kept : goal.returns-in_ok-is_new-3-clause-kept
returns-in_ok-is_new-3-clause-kept c =
    kept_long c.args.self.now c.insert-else-name-lt-MIDDLE.new.self _
    c.in_ok-is_new-3.ensures.keys
