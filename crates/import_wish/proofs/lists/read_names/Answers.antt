use Rattle.std.proofs.Common.{◌+◌, [], ◌∷◌, ◌++◌, drop, sym, ap, ◌∙◌}
use Rattle.deb_text.specs.Lists.{lists}
use Rattle.deb_text.proofs.ListLaws.{lists-push}
use Rattle.import_wish.specs.Lists.{is_among, names_from}
use Rattle.import_wish.proofs.NameLaws.{names-unknown, names-twice, names-goes, names-end}
use Rattle.import_wish.proofs.lists.read_names.Goals as goal

pub returns-in_default : goal.returns-in_default
returns-in_default c =
    sym c.loop-entry.invariant
    ∙ names-unknown (lists c.loop-entry.names.items) c.args.entries.now c.loop-entry.entry-index
    c.entry-item.result c.loop-entry-test.true c.entry-item.is (sym c.in_default.ensures)

pub returns-then-is_among : goal.returns-then-is_among
returns-then-is_among c =
    let name = c.in-Some.name.now in
    sym c.loop-entry.invariant
    ∙ names-twice (lists c.loop-entry.names.items) c.args.entries.now c.loop-entry.entry-index
    c.entry-item.result name c.loop-entry-test.true c.entry-item.is (sym c.in-Some.ensures)
    (ap (λ vs. is_among (lists vs) name) (sym c.deref.ensures.value) ∙ sym c.is_among.ensures
    ∙ c.if-is_among.true)

pub loop-entry-preserved : goal.loop-entry-preserved
loop-entry-preserved c =
    let name = c.in-Some.name.now in
    let names = c.loop-entry.names.items in
    let rest = drop (c.loop-entry.entry-index + 1) c.args.entries.now in
    ap (λ vs. names_from (lists vs) rest) c.in_ok-push.ensures.items
    ∙ ap (λ ns. names_from ns rest) (lists-push names c.in_ok-from_slice.field-0
    ∙ ap (λ n. lists names ++ n ∷ []) c.in_ok-from_slice.ensures.items)
    ∙ sym (names-goes (lists names) c.args.entries.now c.loop-entry.entry-index
    c.entry-item.result name c.loop-entry-test.true c.entry-item.is (sym c.in-Some.ensures)
    (ap (λ vs. is_among (lists vs) name) (sym c.deref.ensures.value) ∙ sym c.is_among.ensures
    ∙ c.if-is_among.false))
    ∙ c.loop-entry.invariant

pub returns : goal.returns
returns c =
    sym c.loop-entry.invariant
    ∙ names-end (lists c.loop-entry.names.items) c.args.entries.now c.loop-entry.entry-index
    c.loop-entry-test.false
