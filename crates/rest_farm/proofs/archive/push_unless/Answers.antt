use Rattle.std.proofs.Common.{sym, ◌∙◌}
use Rattle.rest_farm.proofs.KeptLaws.{kept-one, kept-out}
use Rattle.rest_farm.proofs.archive.push_unless.Goals as goal

pub returns-then-has_item : goal.returns-then-has_item
returns-then-has_item c =
    kept-out c.args.out.now c.args.list.now.items c.args.item.now
    (sym c.has_item.ensures ∙ c.if-has_item.true)

pub returns : goal.returns
returns c =
    kept-one c.args.out.now c.args.list.now.items c.push.new.self.items c.args.item.now
    c.in_ok-copy.copy (sym c.has_item.ensures ∙ c.if-has_item.false) c.in_ok-copy.ensures.cases
    c.in_ok-push.ensures.items
