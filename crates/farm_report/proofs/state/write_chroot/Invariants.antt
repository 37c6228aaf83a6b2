use Rattle.std.specs.List.{flat_map, range_with_len}
use Rattle.farm_model.specs.Chroot.{slot}
use Rattle.farm_report.specs.StateText.{held_text}
use Rattle.report_sink.specs.Sinks.{IsWritten}
use Rattle.farm_report.proofs.state.write_chroot.Given as goal

abbrev pub invariant-loop-name : goal.invariant-loop-name
invariant-loop-name g l =
    IsWritten (g.S.Sink.state l.fn.out) (g.S.Sink.state l.out)
    (flat_map (λ n. held_text l.universe n (slot l.chroot.slots n)) (range_with_len 0 l.name))
