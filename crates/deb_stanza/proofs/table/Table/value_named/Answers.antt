use Rattle.std.proofs.Common.{[], sym, ◌∙◌, arith}
use Rattle.std.specs.Prelude.{slice_index_or}
use Rattle.deb_stanza.specs.View.{table_texts}
use Rattle.deb_stanza.proofs.KeyLaws.{key-at, length-keys, other-value}
use Rattle.deb_stanza.proofs.table.Table.value_named.Goals as goal

pub index-requires : goal.index-requires
index-requires c =
    let t = c.args.self.now in
    omega (
      arith,
      length-keys t.bytes.items t.fields.items t.keys.items c.requires.sound.keys,
      c.requires.within,
    )

pub returns-then-index-key : goal.returns-then-index-key
returns-then-index-key c =
    let t = c.args.self.now in
    let i = c.args.field in
    let same =
    key-at t.bytes.items t.fields.items t.keys.items c.requires.sound.keys i c.index.result.now
    c.requires.within in
    other-value c.args.name.now (slice_index_or (table_texts t) i [])
    (λ is. c.if-index-key.true (c.index.ensures ∙ same ∙ is ∙ sym c.requires.key))
