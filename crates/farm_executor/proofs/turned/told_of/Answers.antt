use Rattle.std.proofs.Common.{sym, subst}
use Rattle.std.proofs.lemmas.Result.{IfOk-weaker}
use Rattle.std.specs.Prelude.{IfOk}
use Rattle.farm_executor.specs.FarmRuns.{IsFarmRun}
use Rattle.farm_executor.specs.Played.{IsPlayed}
use Rattle.farm_executor.proofs.FarmEnds.{farm_run}
use Rattle.farm_executor.proofs.RunTold.{fault_told, over_err}
use Rattle.farm_executor.proofs.turned.told_of.Goals as goal

pub returns-in-Ok-clause-run : goal.returns-in-Ok-clause-run
returns-in-Ok-clause-run c =
    let o = c.in-Ok.played.outcomes in
    let played : IsPlayed c.args.accepted (Unit {0}) o.stops.items o.chroots.items o.spent.items
    c.in-Ok.played.history.items =
    subst (λ r. IfOk r (λ p. IsPlayed c.args.accepted (Unit {0}) p.outcomes.stops.items
    p.outcomes.chroots.items p.outcomes.spent.items p.history.items)) c.in-Ok.is
    c.requires.played in
    IfOk-weaker c.told.result _ _ (λ run h. (
      h.0,
      subst (λ v. IsFarmRun c.args.accepted v.items run.spent.items run.history.items) (sym h.2)
          (subst (λ v. IsFarmRun c.args.accepted o.chroots.items v.items run.history.items)
          (sym h.3)
          (subst (λ v. IsFarmRun c.args.accepted o.chroots.items o.spent.items v.items) (sym h.4)
          (farm_run c.args.accepted c.keeps.ensures (Unit {0})
          o.stops.items o.chroots.items o.spent.items c.in-Ok.played.history.items played
          h.1.0 h.1.1))),
    )) c.told.ensures.ended

pub returns-in-Ok-clause-fault : goal.returns-in-Ok-clause-fault
returns-in-Ok-clause-fault c =
    let o = c.in-Ok.played.outcomes in
    let played : IsPlayed c.args.accepted (Unit {0}) o.stops.items o.chroots.items o.spent.items
    c.in-Ok.played.history.items =
    subst (λ r. IfOk r (λ p. IsPlayed c.args.accepted (Unit {0}) p.outcomes.stops.items
    p.outcomes.chroots.items p.outcomes.spent.items p.history.items)) c.in-Ok.is
    c.requires.played in
    over_err _ _ c.told.result
    (fault_told c.args.accepted (Unit {0}) o.stops.items
    o.chroots.items o.spent.items c.in-Ok.played.history.items played)
    c.told.ensures.stopped
