use Rattle.std.proofs.Common.{◌≡◌, sym, ap, subst}
use Rattle.farm_model.specs.Common.{Universe, IsUniverse}
use Rattle.known_rows.specs.ByName.{AreKnownLanes}
use Rattle.known_rows.specs.Outputs.{PlanOutputs}
use Rattle.known_rows.proofs.HitLaws.{lanes_known}
use Rattle.known_rows.proofs.outputs.Outputs.row.Goals as goal

pub invariant_of-known : goal.invariant_of-known
invariant_of-known c =
    let u = c.self.inside.universe.value in
    let viewed = ap (λ (o : PlanOutputs). o.universe) c.self.view_is in
    let same : u ≡ c.args.universe.now = cc (viewed, c.requires.of_universe) in
    record {
      sound = subst IsUniverse same c.self.invariant.sound.universe;
      known = subst (λ (w : Universe). AreKnownLanes w c.deref.result.now) same
          (subst (AreKnownLanes u) (sym c.deref.ensures.value)
          (lanes_known u c.self.inside.plan.value.lanes c.self.inside.lanes.items
          c.self.invariant.are c.self.invariant.sound.universe));
    }
