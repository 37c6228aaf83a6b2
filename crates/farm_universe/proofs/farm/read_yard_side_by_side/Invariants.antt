use Rattle.std.proofs.Common.{◌≡◌, ◌-◌, drop, length}
use Rattle.deb_text.specs.Steps.{steps}
use Rattle.farm_universe.specs.FarmText.{tell_later, yard_of}
use Rattle.farm_universe.specs.FarmView.{land_view, yard_view, IsYard}
use Rattle.farm_universe.proofs.farm.read_yard_side_by_side.Given as goal

abbrev pub invariant-loop-number : goal.invariant-loop-number
invariant-loop-number g l = record {
  so_far : steps (tell_later (land_view l.land)) (yard_view l.yard) (drop l.number l.paragraphs)
      ≡ yard_of (land_view l.land) (drop 1 l.paragraphs);
  yard : IsYard (land_view l.land) l.yard;
}

abbrev pub decreases-loop-number : goal.decreases-loop-number
decreases-loop-number g l = length l.paragraphs - l.number
