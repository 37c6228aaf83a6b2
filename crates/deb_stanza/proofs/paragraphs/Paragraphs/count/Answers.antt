use Rattle.std.proofs.Common.{◌≡◌, length, ap, sym, ◌∙◌, arith}
use Rattle.deb_stanza.proofs.PlainLaws.{length-paragraphs}
use Rattle.deb_stanza.proofs.paragraphs.Paragraphs.count.Goals as goal

pub returns : goal.returns
returns c =
    let t = c.self.inside.table in
    let count : length c.args.self.now ≡ length t.paragraphs.items =
    ap length (sym c.self.view_is)
    ∙ length-paragraphs t.bytes.items t.fields.items t.paragraphs.items in
    omega (arith, count, c.len.ensures, t.paragraphs.ok.0)
