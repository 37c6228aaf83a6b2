use Rattle.std.proofs.Common.{◌≡◌, ◌+◌, ◌∷◌, [], ap, length, length-append, arith}
use Rattle.deb_stanza.proofs.CutLaws.{IsCut-count}
use Rattle.deb_stanza.proofs.KeyLaws.{length-keys}
use Rattle.deb_stanza.specs.View.{own}
use Rattle.deb_stanza.proofs.draft.Draft.add_head.Goals as goal

pub overflow_cast-len : goal.overflow_cast-len
overflow_cast-len c =
    let t = c.add_text.new.self.table in
    let line = c.args.line.bytes.now in
    omega (
      arith,
      IsCut-count own (length t.bytes.items) t.fields.items c.in_ok-add_text.ensures.sound.fields,
      ap length c.in_ok-add_text.ensures.bytes,
      length-append c.args.self.now.table.bytes.items line,
      c.requires.room,
      c.len.ensures,
    )

pub returns-clause-latest : goal.returns-clause-latest
returns-clause-latest c =
    let old = c.args.self.now.table in
    let t = c.add_text.new.self.table in
    let keys = c.in_ok-add_text.ensures.keys in
    let sound = c.in_ok-add_text.ensures.sound in
    let count : length old.keys.items + 1 ≡ c.len.result =
    omega (
      arith,
      ap length keys,
      length-append old.keys.items (c.args.key ∷ []),
      length-keys t.bytes.items t.fields.items t.keys.items sound.keys,
      c.len.ensures,
      t.fields.ok.0,
    ) in
    rw keys (c.put.ensures old.keys.items (rw c.in_ok-add_text.ensures.latest c.requires.latest) count)
