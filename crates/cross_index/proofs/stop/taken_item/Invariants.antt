use Rattle.std.specs.Option.{option_map}
use Rattle.deb_text.specs.Common.{length_left}
use Rattle.cross_index.proofs.stop.taken_item.Given as goal

abbrev pub decreases-loop-left : goal.decreases-loop-left
decreases-loop-left l = length_left (option_map (λ rest. rest.now) l.left)
