use Rattle.std.proofs.Common.{arith}
use Rattle.deb_text.proofs.StepLaws.{place-ends}
use Rattle.farm_universe.specs.FarmText.{tell_later}
use Rattle.farm_universe.specs.FarmView.{land_view}
use Rattle.farm_universe.proofs.farm.read_yard_side_by_side.Goals as goal

pub returns-clause-read : goal.returns-clause-read
returns-clause-read g c =
    place-ends (tell_later (land_view c.args.land.now)) c.args.paragraphs.now
    c.loop-number.number _ _
    (omega (arith, c.count.ensures, c.loop-number-test.false)) c.loop-number.invariant.so_far
