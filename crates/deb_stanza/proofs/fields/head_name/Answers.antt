use Rattle.std.proofs.Common.{Ok, sym, ap, ◌∙◌}
use Rattle.std.specs.List.{list_any}
use Rattle.deb_stanza.specs.Keys.{is_named}
use Rattle.deb_stanza.specs.Stanza.{is_colon, name_of}
use Rattle.deb_stanza.proofs.FrontLaws.{fails-unnamed, head-named, head-unnamed}
use Rattle.deb_stanza.proofs.fields.head_name.Goals as goal

pub returns-then-is_named-clause-name : goal.returns-then-is_named-clause-name
returns-then-is_named-clause-name c =
    let cut = c.split_name.ensures in
    let h =
    head-named c.args.line.bytes.now
    ((λ j. is_named (sym cut.name j) (sym cut.rest j)) ∙ sym c.is_named.ensures
    ∙ c.if-is_named.true) in
    rw h.0 (ap Ok (sym (cut.name ∙ h.1.0)))

pub returns-then-is_named-clause-colon : goal.returns-then-is_named-clause-colon
returns-then-is_named-clause-colon c =
    let cut = c.split_name.ensures in
    (head-named c.args.line.bytes.now
    ((λ j. is_named (sym cut.name j) (sym cut.rest j)) ∙ sym c.is_named.ensures
    ∙ c.if-is_named.true)).1.1

pub returns-else-is_named-clause-name : goal.returns-else-is_named-clause-name
returns-else-is_named-clause-name c =
    let cut = c.split_name.ensures in
    let text = c.args.line.bytes.now in
    rw (
      c.name_fault.ensures,
      head-unnamed text
          ((λ j. is_named (sym cut.name j) (sym cut.rest j)) ∙ sym c.is_named.ensures
          ∙ c.if-is_named.false),
    )
    (fails-unnamed (list_any is_colon text) c.args.line.number (name_of text))
