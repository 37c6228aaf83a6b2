use Rattle.std.proofs.Common.{arith, length, ◌≡◌}
use Rattle.deb_stanza.proofs.CutLaws.{IsCut-count}
use Rattle.deb_stanza.proofs.KeyLaws.{keys-push, colons-push}
use Rattle.deb_stanza.proofs.TableLaws.{raws-push, fields-push, paragraphs-push}
use Rattle.deb_stanza.proofs.table.Table.add_paragraph.Goals as goal

pub overflow_cast-first : goal.overflow_cast-first
overflow_cast-first c =
    let t = c.args.self.now in
    omega (
      arith,
      IsCut-count _ (length t.bytes.items) t.fields.items c.requires.sound.fields,
      c.requires.room,
      c.len-first.ensures,
    )

pub returns-clause-raws : goal.returns-clause-raws
returns-clause-raws c =
    let t = c.args.self.now in
    let e = c.in_ok-push_text.ensures in
    let count : c.len-first.result ≡ length t.fields.items =
    omega (arith, c.len-first.ensures, t.fields.ok.0) in
    rw (e.bytes, e.fields, e.paragraphs, c.in_ok-push.ensures.items, count)
    (raws-push t.bytes.items t.fields.items t.paragraphs.items c.args.text.now
    c.requires.sound.fields c.requires.sound.paragraphs c.args.line)

pub returns-clause-sound : goal.returns-clause-sound
returns-clause-sound c =
    let t = c.args.self.now in
    let e = c.in_ok-push_text.ensures in
    let count : c.len-first.result ≡ length t.fields.items =
    omega (arith, c.len-first.ensures, t.fields.ok.0) in
    record {
      fields =
          rw (e.bytes, e.fields)
          (fields-push t.bytes.items t.fields.items t.paragraphs.items c.args.text.now
          c.requires.sound.fields c.requires.sound.paragraphs c.requires.some);
      paragraphs =
          rw (e.fields, e.paragraphs, c.in_ok-push.ensures.items, count)
          (paragraphs-push t.bytes.items t.fields.items t.paragraphs.items c.args.text.now
          c.requires.sound.fields c.requires.sound.paragraphs c.args.line);
      keys =
          rw (e.bytes, e.fields, e.keys)
          (keys-push t.bytes.items t.fields.items t.paragraphs.items c.args.text.now
          c.requires.sound.fields c.requires.sound.paragraphs t.keys.items
          c.requires.sound.keys c.requires.sound.colons c.args.key c.requires.key);
      colons =
          rw (e.bytes, e.fields)
          (colons-push t.bytes.items t.fields.items t.paragraphs.items c.args.text.now
          c.requires.sound.fields c.requires.sound.paragraphs t.keys.items
          c.requires.sound.keys c.requires.sound.colons c.requires.colon);
    }
