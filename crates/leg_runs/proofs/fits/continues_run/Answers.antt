use Rattle.std.proofs.Common.{sym, ◌∙◌}
use Rattle.leg_runs.proofs.FitLaws.{continues-same}
use Rattle.leg_runs.proofs.fits.continues_run.Goals as goal

pub returns-clause-right : goal.returns-clause-right
returns-clause-right c = λ yes. record {
  brought = c.in_ok-there.there;
  archive = c.in_ok-there.ensures;
  continues = c.in_ok-yes.ensures.right yes;
}

pub returns-clause-wrong : goal.returns-clause-wrong
returns-clause-wrong c = λ no on.
    c.in_ok-yes.ensures.wrong no
    (continues-same c.args.run.now.universe c.args.run.now.state on.brought c.in_ok-there.there
    c.args.gone.now c.args.farm.now (λ item. on.archive item ∙ sym (c.in_ok-there.ensures item))
    on.continues)
