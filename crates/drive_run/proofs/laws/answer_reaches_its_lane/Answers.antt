use Rattle.drive_run.proofs.DeskLaws.{other_untouched, passed_over, reached}
use Rattle.drive_run.proofs.laws.answer_reaches_its_lane.Goals as goal

pub returns : goal.returns
returns c d l n done =
    (other_untouched d l n done, passed_over d l n done, reached d l n done)
