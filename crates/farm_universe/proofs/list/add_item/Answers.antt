use Rattle.std.proofs.Common.{◌≡◌, ◌∙◌, sym, ap, arith, false, length, Ok}
use Rattle.farm_model.specs.Packages.{has_bit, contains}
use Rattle.farm_universe.specs.TableView.{table_view}
use Rattle.farm_universe.proofs.ListLaws.{long, has_bit-listed, add_item-twice, add_item-new, AreListed-push}
use Rattle.farm_universe.proofs.list.add_item.Goals as goal

pub has_bit-requires-clause-name : goal.has_bit-requires-clause-name
has_bit-requires-clause-name c =
    let count = long (table_view c.args.table.now) c.args.list.now c.requires.listed in
    let same = ap length c.deref.ensures.value in
    omega (arith, count, same, c.in_ok-variant.ensures.place.name)

pub returns-then-has_bit-clause-read : goal.returns-then-has_bit-clause-read
returns-then-has_bit-clause-read c =
    add_item-twice (table_view c.args.table.now) c.args.list.now c.args.entry.now
    c.in_ok-variant.variant c.requires.listed c.in_ok-variant.ensures.place
    c.in_ok-variant.ensures.read
    (ap (λ words. has_bit words c.in_ok-variant.variant) (sym c.deref.ensures.value)
    ∙ sym c.has_bit.ensures ∙ c.if-has_bit.true)

pub set_bit-requires-clause-name : goal.set_bit-requires-clause-name
set_bit-requires-clause-name c =
    let count = long (table_view c.args.table.now) c.args.list.now c.requires.listed in
    omega (arith, count, c.in_ok-variant.ensures.place.name)

pub returns-clause-read : goal.returns-clause-read
returns-clause-read c =
    add_item-new (table_view c.args.table.now) c.args.list.now c.args.entry.now
    c.in_ok-variant.variant c.requires.listed c.in_ok-variant.ensures.place
    c.in_ok-variant.ensures.read
    (ap (λ words. has_bit words c.in_ok-variant.variant) (sym c.deref.ensures.value)
    ∙ sym c.has_bit.ensures ∙ c.if-has_bit.false)
    ∙ ap Ok (sym c.in_ok-push.ensures.items)

pub returns-clause-listed : goal.returns-clause-listed
returns-clause-listed c =
    let none : contains c.args.list.now.variants.items c.in_ok-variant.variant ≡ false =
    sym (has_bit-listed (table_view c.args.table.now) c.args.list.now c.requires.listed
    c.in_ok-variant.variant c.in_ok-variant.ensures.place.name)
    ∙ ap (λ words. has_bit words c.in_ok-variant.variant) (sym c.deref.ensures.value)
    ∙ sym c.has_bit.ensures ∙ c.if-has_bit.false in
    AreListed-push (table_view c.args.table.now) c.args.list.now
    (record { variants = c.push.new.self; words = c.set_bit.new.words })
    c.in_ok-variant.variant c.requires.listed c.in_ok-variant.ensures.place none
    c.in_ok-push.ensures.items c.set_bit.ensures
