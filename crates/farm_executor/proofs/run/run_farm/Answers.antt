use Rattle.std.proofs.Common.{sym, subst}
use Rattle.std.proofs.lemmas.Result.{IfOk-weaker}
use Rattle.farm_executor.specs.FarmRuns.{IsFarmRun}
use Rattle.farm_executor.proofs.FarmEnds.{farm_run}
use Rattle.farm_executor.proofs.RunTold.{fault_told, over_err}
use Rattle.farm_executor.proofs.run.run_farm.Goals as goal

pub returns-in-Ok-clause-run : goal.returns-in-Ok-clause-run
returns-in-Ok-clause-run g c =
    let o = c.in-Ok.played.outcomes in
    IfOk-weaker c.told.result _ _ (λ run h. (
      h.0,
      subst (λ v. IsFarmRun c.args.accepted v.items run.spent.items run.history.items) (sym h.2)
          (subst (λ v. IsFarmRun c.args.accepted o.chroots.items v.items run.history.items)
          (sym h.3)
          (subst (λ v. IsFarmRun c.args.accepted o.chroots.items o.spent.items v.items) (sym h.4)
          (farm_run c.args.accepted c.keeps.ensures (g.G.Gate.may_give_up c.args.gate.now)
          o.stops.items o.chroots.items o.spent.items c.in-Ok.played.history.items c.in-Ok.ensures
          h.1.0 h.1.1))),
    )) c.told.ensures.ended

pub returns-in-Ok-clause-fault : goal.returns-in-Ok-clause-fault
returns-in-Ok-clause-fault g c =
    let o = c.in-Ok.played.outcomes in
    over_err _ _ c.told.result
    (fault_told c.args.accepted (g.G.Gate.may_give_up c.args.gate.now) o.stops.items
    o.chroots.items o.spent.items c.in-Ok.played.history.items c.in-Ok.ensures)
    c.told.ensures.stopped
