use Rattle.std.proofs.Common.{◌-◌, List, length, Option, ap, ◌∙◌, arith}
use Rattle.std.specs.List.{slice_get}
use Rattle.deb_stanza.specs.declared.table.Start.{Start}
use Rattle.deb_stanza.specs.View.{table_texts}
use Rattle.deb_stanza.proofs.LastLaws.{last-start, last-within, last-none, drop-texts}
use Rattle.deb_stanza.proofs.table.Table.last_start.Goals as goal

abbrev last : List Start → Option Start
last ps = slice_get ps (length ps - 1)

pub returns-in-Some-clause-within : goal.returns-in-Some-clause-within
returns-in-Some-clause-within c =
    let t = c.args.self.now in
    last-within (length t.fields.items) t.paragraphs.items c.in-Some.start.now
    c.requires.paragraphs
    (c.in-Some.ensures.value ∙ ap last c.deref.ensures.value)

pub returns-in-Some-clause-texts : goal.returns-in-Some-clause-texts
returns-in-Some-clause-texts c =
    let t = c.args.self.now in
    last-start (table_texts t) t.paragraphs.items c.in-Some.start.now
    (c.in-Some.ensures.value ∙ ap last c.deref.ensures.value)

pub returns-in-None-clause-texts : goal.returns-in-None-clause-texts
returns-in-None-clause-texts c =
    let t = c.args.self.now in
    drop-texts t.bytes.items t.fields.items _ (omega arith)
    ∙ last-none (table_texts t) t.paragraphs.items
    (c.in-None.ensures.value ∙ ap last c.deref.ensures.value)
