use Rattle.std.proofs.Common.{◌≡◌}
use Rattle.std.specs.List.{slice_split}
use Rattle.std.specs.Option.{option_map}
use Rattle.deb_text.specs.Common.{is_byte, length_left, parts_left, traverse, with_front}
use Rattle.command_line.specs.Schedule.{lane_at}
use Rattle.command_line.proofs.schedule.read_lanes.Given as goal

abbrev pub invariant-loop-left : goal.invariant-loop-left
invariant-loop-left l =
    let left = parts_left (is_byte 44) (option_map (λ rest. rest.now) l.left) in
    with_front l.lanes.items (traverse lane_at left)
    ≡ traverse lane_at (slice_split (is_byte 44) l.text)

abbrev pub decreases-loop-left : goal.decreases-loop-left
decreases-loop-left l = length_left (option_map (λ rest. rest.now) l.left)
