use Rattle.std.proofs.Common.{◌≡◌, length}
use Rattle.deb_text.specs.Common.{is_byte}
use Rattle.deb_text.specs.Cuts.{without_end}
use Rattle.drive_journal.proofs.begun.without_zeros.Given as goal

abbrev pub invariant-loop-rest : goal.invariant-loop-rest
invariant-loop-rest l = without_end (is_byte 0) l.rest ≡ without_end (is_byte 0) l.text

abbrev pub decreases-loop-rest : goal.decreases-loop-rest
decreases-loop-rest l = length l.rest
