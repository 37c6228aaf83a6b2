use Rattle.std.proofs.Common.{◌≡◌, length, ap, sym, ◌∙◌, arith}
use Rattle.deb_stanza.proofs.PlainLaws.{length-paragraphs}
use Rattle.deb_stanza.proofs.paragraphs.Paragraphs.field.Goals as goal

pub value-requires-clause-within : goal.value-requires-clause-within
value-requires-clause-within c =
    let t = c.self.inside.table in
    let count : length c.args.self.now ≡ length t.paragraphs.items =
    ap length (sym c.self.view_is)
    ∙ length-paragraphs t.bytes.items t.fields.items t.paragraphs.items in
    omega (arith, count, c.requires)
