use Rattle.deb_stanza.proofs.KeyLaws.{keys-push, colons-push}
use Rattle.deb_stanza.proofs.TableLaws.{raws-larger, fields-push, paragraphs-more}
use Rattle.deb_stanza.proofs.table.Table.add_field.Goals as goal

pub returns-clause-raws : goal.returns-clause-raws
returns-clause-raws c =
    let t = c.args.self.now in
    let e = c.in_ok-push_text.ensures in
    rw (e.bytes, e.fields, e.paragraphs)
    (raws-larger t.bytes.items t.fields.items t.paragraphs.items c.args.text.now
    c.requires.sound.fields c.requires.sound.paragraphs)

pub returns-clause-sound : goal.returns-clause-sound
returns-clause-sound c =
    let t = c.args.self.now in
    let e = c.in_ok-push_text.ensures in
    record {
      fields =
          rw (e.bytes, e.fields)
          (fields-push t.bytes.items t.fields.items t.paragraphs.items c.args.text.now
          c.requires.sound.fields c.requires.sound.paragraphs c.requires.some);
      paragraphs =
          rw (e.fields, e.paragraphs)
          (paragraphs-more t.bytes.items t.fields.items t.paragraphs.items c.args.text.now
          c.requires.sound.fields c.requires.sound.paragraphs);
      keys =
          rw (e.bytes, e.fields, e.keys)
          (keys-push t.bytes.items t.fields.items t.paragraphs.items c.args.text.now
          c.requires.sound.fields c.requires.sound.paragraphs t.keys.items
          c.requires.sound.keys c.requires.sound.colons c.args.key c.requires.key);
      colons =
          rw (e.bytes, e.fields)
          (colons-push t.bytes.items t.fields.items t.paragraphs.items c.args.text.now
          c.requires.sound.fields c.requires.sound.paragraphs t.keys.items
          c.requires.sound.keys c.requires.sound.colons c.requires.colon);
    }
