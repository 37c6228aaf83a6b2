use Rattle.std.proofs.Common.{◌≡◌, ◌<◌, length, ap, sym, ◌∙◌, arith}
use Rattle.deb_stanza.specs.declared.table.Start.{Start}
use Rattle.deb_stanza.specs.Stanza.{paragraph_at}
use Rattle.deb_stanza.proofs.PlainLaws.{length-paragraphs, line_of-paragraph}
use Rattle.deb_stanza.proofs.paragraphs.Paragraphs.line_of.Goals as goal

pub index-requires : goal.index-requires
index-requires c =
    let t = c.self.inside.table in
    let count : length c.args.self.now ≡ length t.paragraphs.items =
    ap length (sym c.self.view_is)
    ∙ length-paragraphs t.bytes.items t.fields.items t.paragraphs.items in
    omega (arith, count, c.requires, t.paragraphs.ok.0)

pub returns : goal.returns
returns c =
    let t = c.self.inside.table in
    let i = c.args.paragraph in
    let count : length c.args.self.now ≡ length t.paragraphs.items =
    ap length (sym c.self.view_is)
    ∙ length-paragraphs t.bytes.items t.fields.items t.paragraphs.items in
    let within : i < length t.paragraphs.items = omega (arith, count, c.requires) in
    ap (λ (s : Start). s.line) c.index.ensures
    ∙ sym (line_of-paragraph t.bytes.items t.fields.items t.paragraphs.items i
    c.index.result.now within)
    ∙ ap (λ ps. (paragraph_at ps i).line) c.self.view_is
