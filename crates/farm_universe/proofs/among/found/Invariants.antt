use Rattle.std.proofs.Common.{◌≡◌, ℕ, ◌<◌, Some}
use Rattle.std.specs.List.{slice_get}
use Rattle.item_index.specs.Items.{item, IsListed, IsListedField}
use Rattle.farm_universe.specs.BaseText.{Member}
use Rattle.farm_universe.proofs.among.found.Given as goal

-- the members so far are listed
abbrev pub invariant-loop-owner : goal.invariant-loop-owner
invariant-loop-owner l = record {
  named : (k : ℕ) (m : Member) → k < l.owner → slice_get l.members.items k ≡ Some m
      → IsListed l.named m.name (item k 0 0);
  provided : (k : ℕ) (m : Member) → k < l.owner → slice_get l.members.items k ≡ Some m
      → IsListedField l.provided k m.binary.provides;
}
