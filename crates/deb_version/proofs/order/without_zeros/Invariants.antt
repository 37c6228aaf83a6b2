use Rattle.std.proofs.Common.{◌≡◌, length}
use Rattle.deb_text.specs.Cuts.{behind}
use Rattle.deb_version.specs.Runs.{is_zero}
use Rattle.deb_version.proofs.order.without_zeros.Given as goal

abbrev pub invariant-loop-xs : goal.invariant-loop-xs
invariant-loop-xs l = behind is_zero l.xs ≡ behind is_zero l.part

abbrev pub decreases-loop-xs : goal.decreases-loop-xs
decreases-loop-xs l = length l.xs
