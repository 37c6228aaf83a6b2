-- Entries as the code has them.
--
--   note_in, noted_in     what the code's entry says
use Rattle.drive_journal.specs.declared.entry.Entry.{Entry}
use Rattle.drive_journal.specs.declared.entry.Said.{Said}
use Rattle.drive_journal.specs.declared.entry.Said.TheVariants.{Asked, Picked, Branched, Done, Failed, AskedAgain}
use Rattle.drive_journal.specs.Entries.{Note, IsAsked, HasPicked, HasBranched, IsDone, HasFailed, IsAskedAgain, Noted}

abbrev pub note_in : Said → Note
note_in Asked = IsAsked
note_in (Picked name version) = HasPicked name.now version.now
note_in (Branched first) = HasBranched first
note_in Done = IsDone
note_in Failed = HasFailed
note_in AskedAgain = IsAskedAgain

abbrev pub noted_in : Entry → Noted
noted_in e = record { lane = e.lane.now; number = e.number; note = note_in e.said }
