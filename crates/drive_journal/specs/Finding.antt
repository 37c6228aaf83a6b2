-- Findings as the code has them.
--
--   finding_in     what the code has found
use Rattle.deb_text.specs.Lines.{lines_of}
use Rattle.drive_journal.specs.declared.begun.Found.{Found}
use Rattle.drive_journal.specs.declared.begun.Found.TheVariants.{Fresh, Known, Misfit}
use Rattle.drive_journal.specs.HeadText.{Finding, IsFresh, IsKnown, IsMisfit}

abbrev pub finding_in : Found → Finding
finding_in Fresh = IsFresh
finding_in (Known run entries) = IsKnown run.now (lines_of entries.now)
finding_in (Misfit line) = IsMisfit line
