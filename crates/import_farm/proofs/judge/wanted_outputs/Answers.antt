use Rattle.import_farm.proofs.judge.wanted_outputs.Goals.{in-Some+in_ok-push_wanted, in_default}
use Rattle.import_farm.proofs.judge.wanted_outputs.Goals as goal

pub loop-name-preserved : goal.loop-name-preserved
loop-name-preserved c =
    elim c.match-get.branch [
      | in-Some+in_ok-push_wanted w ↦ rw w.wanted-is w.in_ok-push_wanted.ensures
      | in_default w ↦ rw w.wanted-is c.loop-name.invariant
    ]
