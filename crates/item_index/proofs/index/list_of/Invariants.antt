use Rattle.std.proofs.Common.{◌≡◌, ◌<◌, drop}
use Rattle.item_index.specs.Items.{number_behind}
use Rattle.item_index.proofs.index.list_of.Given as goal

abbrev pub invariant-loop-byte : goal.invariant-loop-byte
invariant-loop-byte l =
    (l.number < 4294967296)
    × (number_behind l.number (drop l.byte-index l.text) ≡ number_behind 0 l.text)
