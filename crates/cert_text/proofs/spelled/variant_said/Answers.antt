use Rattle.std.proofs.Common.{sym, ◌∙◌}
use Rattle.cert_text.proofs.spelled.variant_said.Goals as goal

pub returns-in-Some-clause-said : goal.returns-in-Some-clause-said
returns-in-Some-clause-said c =
    let said = c.args.spelled.said c.args.text.now c.in-Some.variant
    (sym c.noted.ensures ∙ c.in-Some.is) in
    sym said.is

pub returns-in-Some-clause-known : goal.returns-in-Some-clause-known
returns-in-Some-clause-known c =
    let said = c.args.spelled.said c.args.text.now c.in-Some.variant
    (sym c.noted.ensures ∙ c.in-Some.is) in
    said.known
