use Rattle.std.proofs.Common.{take}
use Rattle.std.specs.Fmt.{HasWritten, IsPlainFormatter}
use Rattle.deb_text.specs.Lists.{lists}
use Rattle.plan_verifier.specs.Messages.{escaped_names}
use Rattle.plan_verifier.proofs.message.SpacedDisplay.fmt.Given as goal

abbrev pub invariant-loop-name : goal.invariant-loop-name
invariant-loop-name g l =
    IsPlainFormatter l.initial.f
    → HasWritten g.W.Write.write_str_gives l.initial.f
    (escaped_names (lists (take l.name-index l.self.0.now))) l.f
