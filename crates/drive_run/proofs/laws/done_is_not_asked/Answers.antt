use Rattle.drive_run.proofs.DeskLaws.{done_not_asked}
use Rattle.drive_run.proofs.laws.done_is_not_asked.Goals as goal

pub returns : goal.returns
returns c d l n m calls is le = done_not_asked d l n m calls is le
