use Rattle.std.proofs.Common.{sym}
use Rattle.farm_universe.proofs.FitLaws.{newest-alone}
use Rattle.farm_universe.proofs.binary.is_given.Goals as goal

pub returns-then-is_newest : goal.returns-then-is_newest
returns-then-is_newest c =
    sym (newest-alone c.args.binary.now c.args.given.now (c.is_newest.ensures c.if-is_newest.true))
