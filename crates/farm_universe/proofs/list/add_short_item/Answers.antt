use Rattle.std.proofs.Common.{◌∙◌, sym, ap, Ok}
use Rattle.farm_model.specs.Packages.{contains}
use Rattle.farm_universe.specs.TableView.{table_view}
use Rattle.farm_universe.proofs.ListLaws.{item-twice, item-new, AreDifferent-push}
use Rattle.farm_universe.proofs.list.add_short_item.Goals as goal

pub returns-then-is_among-clause-read : goal.returns-then-is_among-clause-read
returns-then-is_among-clause-read c =
    item-twice (table_view c.args.table.now) c.args.variants.now.items c.args.entry.now
    c.in_ok-variant.variant c.in_ok-variant.ensures.read
    (ap (λ vs. contains vs c.in_ok-variant.variant) (sym c.deref.ensures.value)
    ∙ sym c.is_among.ensures ∙ c.if-is_among.true)

pub returns-clause-read : goal.returns-clause-read
returns-clause-read c =
    item-new (table_view c.args.table.now) c.args.variants.now.items c.args.entry.now
    c.in_ok-variant.variant c.in_ok-variant.ensures.read
    (ap (λ vs. contains vs c.in_ok-variant.variant) (sym c.deref.ensures.value)
    ∙ sym c.is_among.ensures ∙ c.if-is_among.false)
    ∙ ap Ok (sym c.in_ok-push.ensures.items)

pub returns-clause-different : goal.returns-clause-different
returns-clause-different c =
    AreDifferent-push (table_view c.args.table.now) c.args.variants.now.items
    c.push.new.self.items c.in_ok-variant.variant c.requires.different
    c.in_ok-variant.ensures.place
    (ap (λ vs. contains vs c.in_ok-variant.variant) (sym c.deref.ensures.value)
    ∙ sym c.is_among.ensures ∙ c.if-is_among.false)
    c.in_ok-push.ensures.items
