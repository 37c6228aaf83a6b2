-- A leg that is to go on where another has stopped. The project's own rules. Parameters: first and
-- second the texts of the two, before and leg what they stand for.
--
--   IsJoined        the one goes on where the other has stopped
--   IsJoinedTo      the same of one by its texts
--   IsJoinedFrom    the same of both
use Rattle.leg_answers.specs.declared.join.Joined.{Joined}
use Rattle.leg_runs.specs.Fits.{GoesOnFrom}
use Rattle.leg_runs.specs.Legs.{IsRunOf, LegRun, LegText}

abbrev pub IsJoined : (before leg : LegRun) → Joined → Type 0
IsJoined before leg joined = GoesOnFrom before leg

abbrev pub IsJoinedTo : LegRun → LegText → Joined → Type 0
IsJoinedTo before second joined =
    (leg : LegRun) × IsRunOf second leg × IsJoined before leg joined

abbrev pub IsJoinedFrom : LegText → LegText → Joined → Type 0
IsJoinedFrom first second joined =
    (before : LegRun) × IsRunOf first before × IsJoinedTo before second joined
