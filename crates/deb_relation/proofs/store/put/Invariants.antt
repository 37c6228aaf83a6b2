use Rattle.std.proofs.Common.{◌≡◌, ◌+◌, ◌++◌, length, take}
use Rattle.deb_relation.proofs.store.put.Given as goal

abbrev pub invariant-loop-place : goal.invariant-loop-place
invariant-loop-place g l =
    (take (l.at + l.place) l.written ≡ take l.at l.fn.text ++ take l.place l.bytes)
    × (length l.written ≡ length l.fn.text)
