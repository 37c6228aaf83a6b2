use Rattle.std.proofs.Common.{sym, ◌∙◌}
use Rattle.import_farm.proofs.OutputLaws.{output-more}
use Rattle.import_farm.proofs.judge.push_output.Goals as goal

pub returns-then-gives : goal.returns-then-gives
returns-then-gives c =
    output-more c.args.universe.now c.in-Some.recipe c.args.variant c.args.wanted.now.items
    c.push.new.self.items c.requires (sym c.gives.ensures ∙ c.if-gives.true)
    c.in_ok-push.ensures.items
