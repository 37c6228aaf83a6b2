use Rattle.std.proofs.Common.{take}
use Rattle.std.specs.List.{flat_map}
use Rattle.farm_model.specs.Chroot.{slot}
use Rattle.drive_protocol.specs.RequestText.{held_words}
use Rattle.report_sink.specs.Sinks.{IsWritten}
use Rattle.drive_protocol.proofs.request.write_each_held.Given as goal

abbrev pub invariant-loop-name : goal.invariant-loop-name
invariant-loop-name g l =
    IsWritten (g.S.Sink.state l.fn.out) (g.S.Sink.state l.out)
    (flat_map (λ n. held_words l.universe n (slot l.chroot.slots n)) (take l.name-index l.members))
