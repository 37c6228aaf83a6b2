use Rattle.std.proofs.Common.{◌≡◌, take}
use Rattle.deb_relation.proofs.same.is_same_entry.Given as goal

-- the alternatives so far are the same
abbrev pub invariant-loop-place : goal.invariant-loop-place
invariant-loop-place l = take l.place l.a ≡ take l.place l.b
