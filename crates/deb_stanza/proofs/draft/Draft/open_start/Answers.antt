use Rattle.std.proofs.Common.{map, ap, arith}
use Rattle.deb_stanza.specs.Stanza.{name_of}
use Rattle.deb_stanza.proofs.LastLaws.{drop-texts}
use Rattle.deb_stanza.proofs.draft.Draft.open_start.Goals as goal

pub returns-else-self-clause-names : goal.returns-else-self-clause-names
returns-else-self-clause-names c =
    let t = c.args.self.now.table in
    let closed = c.if-self.false in
    rw closed (ap (map name_of) (drop-texts t.bytes.items t.fields.items _ (omega arith)))
