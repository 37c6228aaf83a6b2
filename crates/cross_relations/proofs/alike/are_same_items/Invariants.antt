use Rattle.std.proofs.Common.{◌≡◌, take}
use Rattle.cross_relations.proofs.alike.are_same_items.Given as goal

-- the alternatives so far are the same
abbrev pub invariant-loop-place : goal.invariant-loop-place
invariant-loop-place l = take l.place l.a ≡ take l.place l.b
