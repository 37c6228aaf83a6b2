use Rattle.std.proofs.Common.{◌≡◌, length, map, ap, ◌∙◌, arith}
use Rattle.std.specs.List.{list_any}
use Rattle.deb_stanza.specs.Stanza.{name_of, same_name}
use Rattle.deb_stanza.proofs.LastLaws.{range-texts, some-value}
use Rattle.deb_stanza.proofs.table.Table.has_name.Goals as goal

pub returns : goal.returns
returns c =
    let t = c.args.self.now in
    let name = c.args.name.now in
    let count : c.len.result ≡ length t.fields.items =
    omega (arith, c.len.ensures, t.fields.ok.0) in
    c.is_some.ensures
    ∙ some-value (λ value. value.now) c.value_among.result name _ c.value_among.ensures
    ∙ ap (λ texts. list_any (same_name name) (map name_of texts))
    (range-texts t.bytes.items t.fields.items c.args.start c.len.result count)
