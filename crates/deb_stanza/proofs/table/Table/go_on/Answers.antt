use Rattle.deb_stanza.proofs.KeyLaws.{keys-go_on, colons-go_on}
use Rattle.deb_stanza.proofs.TableLaws.{raws-longer, fields-longer}
use Rattle.deb_stanza.proofs.table.Table.go_on.Goals as goal

pub returns-clause-raws : goal.returns-clause-raws
returns-clause-raws c =
    let t = c.args.self.now in
    rw c.in_ok-push_line.ensures
    (raws-longer t.bytes.items t.fields.items t.paragraphs.items c.args.line.now
    c.requires.sound.fields c.requires.sound.paragraphs)

pub returns-clause-sound : goal.returns-clause-sound
returns-clause-sound c =
    let t = c.args.self.now in
    record {
      fields =
          rw c.in_ok-push_line.ensures
          (fields-longer t.bytes.items t.fields.items t.paragraphs.items c.args.line.now
          c.requires.sound.fields c.requires.sound.paragraphs);
      paragraphs = c.requires.sound.paragraphs;
      keys =
          rw c.in_ok-push_line.ensures
          (keys-go_on t.bytes.items t.fields.items t.paragraphs.items c.args.line.now
          c.requires.sound.fields c.requires.sound.paragraphs t.keys.items
          c.requires.sound.keys c.requires.sound.colons);
      colons =
          rw c.in_ok-push_line.ensures
          (colons-go_on t.bytes.items t.fields.items t.paragraphs.items c.args.line.now
          c.requires.sound.fields c.requires.sound.paragraphs t.keys.items
          c.requires.sound.keys c.requires.sound.colons);
    }
