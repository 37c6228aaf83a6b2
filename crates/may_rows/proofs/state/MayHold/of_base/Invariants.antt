use Rattle.std.proofs.Common.{◌≡◌, take}
use Rattle.plan_model.specs.Turn.{no_builds}
use Rattle.may_rows.specs.Words.{AreWords}
use Rattle.may_rows.proofs.BaseMaps.{AreSlots}
use Rattle.may_rows.proofs.state.MayHold.of_base.Given as goal

abbrev pub invariant-loop-place : goal.invariant-loop-place
invariant-loop-place l = record {
  words : AreWords l.universe l.state;
  slots : AreSlots l.state (take l.place l.packages);
  cost : l.state.cost ≡ 0;
  built : l.state.built ≡ no_builds l.universe;
}
