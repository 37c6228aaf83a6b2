use Rattle.std.proofs.Common.{◌≡◌, ◌≤◌, take}
use Rattle.deb_text.specs.Numbers.{number}
use Rattle.deb_version.specs.declared.grammar.TheConstants.{MAX_EPOCH}
use Rattle.deb_version.proofs.grammar.number_of.Given as goal

abbrev pub invariant-loop-digit : goal.invariant-loop-digit
invariant-loop-digit l = record {
  so_far : l.number ≡ number (take l.digit-index l.digits);
  small : l.number ≤ MAX_EPOCH;
}
