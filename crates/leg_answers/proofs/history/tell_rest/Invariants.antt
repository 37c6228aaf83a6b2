use Rattle.std.proofs.Common.{◌≡◌, true, length}
use Rattle.leg_answers.specs.Stories.{AreSeams}
use Rattle.leg_answers.proofs.history.tell_rest.Given as goal

abbrev pub invariant-loop-rest : goal.invariant-loop-rest
invariant-loop-rest l =
    l.story.is_right ≡ true → AreSeams l.before l.rest → AreSeams l.first l.legs

abbrev pub decreases-loop-rest : goal.decreases-loop-rest
decreases-loop-rest l = length l.rest
