use Rattle.std.proofs.Common.{rules}
use Rattle.std.proofs.lemmas.Bool.{not-true, not-false}
use Rattle.farm_model.specs.Packages.{word_has}
use Rattle.leg_laws.specs.Named.{is_equal_item, is_listed, item_of}
use Rattle.rest_farm.proofs.HeldLaws.{none-held, one-held}
use Rattle.rest_farm.proofs.left.push_variant.Goals as goal

pub returns-then-not-word_has : goal.returns-then-not-word_has
returns-then-not-word_has c item =
    none-held (is_listed c.args.list.now.items item)
    (word_has c.args.word c.args.variant.bit)
    (is_equal_item (item_of c.args.universe.now c.args.variant) item)
    (search (rules, not-true))

pub returns : goal.returns
returns c item =
    one-held c.args.list.now.items c.push.new.self.items c.in_ok-item.item
    (item_of c.args.universe.now c.args.variant) (word_has c.args.word c.args.variant.bit)
    c.in_ok-push.ensures.items c.in_ok-item.ensures (search (rules, not-false)) item
