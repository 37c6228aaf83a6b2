use Rattle.std.proofs.Common.{sym, ◌∙◌}
use Rattle.std.proofs.lemmas.Bool.{both_ways, not-true, not-false}
use Rattle.rest_farm.proofs.OddsLaws.{goes_on, nothing_at_odds}
use Rattle.rest_farm.proofs.continuation.goes_on.Goals as goal

pub returns-clause-right : goal.returns-clause-right
returns-clause-right c = λ yes.
    goes_on c.args.run.now.universe c.args.run.now.state c.in_ok-left.left c.args.brought.now
    c.args.gone.now c.in_ok-there.there c.args.farm.now c.in_ok-left.ensures
    c.in_ok-there.ensures c.names-names.ensures.kept.sound
    (sym c.is_at_odds.ensures ∙ not-true c.is_at_odds.result yes)

pub returns-clause-wrong : goal.returns-clause-wrong
returns-clause-wrong c = λ no on.
    both_ways c.is_at_odds.result
    (c.is_at_odds.ensures
    ∙ nothing_at_odds c.args.run.now.universe c.args.run.now.state c.in_ok-left.left
    c.args.brought.now c.args.gone.now c.in_ok-there.there c.args.farm.now c.in_ok-left.ensures
    c.in_ok-there.ensures on)
    (not-false c.is_at_odds.result no)
