use Rattle.drive_run.proofs.DeskLaws.{nothing_more}
use Rattle.drive_run.proofs.laws.stop_asks_nothing_more.Goals as goal

pub returns : goal.returns
returns c d l n calls there small = nothing_more d l n calls there small
