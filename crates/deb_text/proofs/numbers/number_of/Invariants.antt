use Rattle.std.proofs.Common.{◌≡◌, ◌<◌, ◌^◌, take}
use Rattle.deb_text.specs.Numbers.{number}
use Rattle.deb_text.proofs.numbers.number_of.Given as goal

abbrev pub invariant-loop-digit : goal.invariant-loop-digit
invariant-loop-digit l = record {
  value : l.number ≡ number (take l.digit-index l.digits);
  below : l.number < 10 ^ l.digit-index;
}
