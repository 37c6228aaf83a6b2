use Rattle.std.proofs.Common.{◌≡◌, length}
use Rattle.deb_text.specs.Classes.{in_class}
use Rattle.deb_text.specs.Cuts.{without_end}
use Rattle.deb_text.proofs.cuts.skip_end.Given as goal

abbrev pub invariant-loop-rest : goal.invariant-loop-rest
invariant-loop-rest l =
    without_end (in_class l.class) l.rest ≡ without_end (in_class l.class) l.text

abbrev pub decreases-loop-rest : goal.decreases-loop-rest
decreases-loop-rest l = length l.rest
