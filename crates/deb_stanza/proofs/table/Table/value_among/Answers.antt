use Rattle.std.proofs.Common.{◌≤◌, length, sym, ◌∙◌, arith}
use Rattle.deb_stanza.specs.View.{table_texts}
use Rattle.deb_stanza.proofs.PlainLaws.{found-at, found-later}
use Rattle.deb_stanza.proofs.TableLaws.{length-texts}
use Rattle.deb_stanza.proofs.table.Table.value_among.Goals as goal

pub returns-in-Some : goal.returns-in-Some
returns-in-Some c =
    let t = c.args.self.now in
    let texts = table_texts t in
    let within : c.args.to ≤ length texts =
    omega (arith, length-texts t.bytes.items t.fields.items, c.requires.within) in
    sym (found-at c.args.name.now texts c.loop-field.field c.args.to
    c.in-Some.value.now c.loop-field-test.true within c.in-Some.ensures)
    ∙ c.loop-field.invariant

pub loop-field-preserved : goal.loop-field-preserved
loop-field-preserved c =
    let t = c.args.self.now in
    let texts = table_texts t in
    let within : c.args.to ≤ length texts =
    omega (arith, length-texts t.bytes.items t.fields.items, c.requires.within) in
    sym (found-later c.args.name.now texts c.loop-field.field
    c.args.to c.loop-field-test.true within c.in_default.ensures)
    ∙ c.loop-field.invariant
