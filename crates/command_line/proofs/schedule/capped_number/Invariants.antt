use Rattle.std.proofs.Common.{◌≡◌, take, min}
use Rattle.deb_text.specs.Numbers.{number}
use Rattle.command_line.proofs.schedule.capped_number.Given as goal

abbrev pub invariant-loop-digit : goal.invariant-loop-digit
invariant-loop-digit l = l.number ≡ min (number (take l.digit-index l.digits)) 4294967296
