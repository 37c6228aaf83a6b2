use Rattle.std.proofs.Common.{sym, ap, ◌∙◌}
use Rattle.std.specs.List.{list_any}
use Rattle.std.proofs.lemmas.Bool.{ltb-false}
use Rattle.deb_stanza.specs.Stanza.{same_name}
use Rattle.deb_stanza.proofs.KeyLaws.{none-reached}
use Rattle.deb_stanza.proofs.draft.Draft.has_name.Goals as goal

pub returns-else-reaches : goal.returns-else-reaches
returns-else-reaches c =
    let d = c.args.self.now in
    let t = d.table in
    let start = c.open_start-start.result in
    c.if-reaches.false
    ∙ sym (none-reached t.bytes.items t.fields.items t.keys.items d.latest.counts
    c.args.name.now c.args.key start c.requires.fit.table.keys c.requires.fit.latest
    c.requires.key (ltb-false start _ (sym c.reaches.ensures ∙ c.if-reaches.false)))
    ∙ ap (list_any (same_name c.args.name.now)) c.open_start-start.ensures.names
