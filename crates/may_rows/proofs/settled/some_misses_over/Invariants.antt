use Rattle.std.proofs.Common.{◌≡◌, ℕ, false, take}
use Rattle.std.specs.List.{list_any}
use Rattle.deb_relation.specs.Relations.{Entry}
use Rattle.may_rows.specs.Met.{MayMiss, may_serve}
use Rattle.may_rows.specs.Words.{may_of}
use Rattle.may_rows.proofs.settled.some_misses_over.Given as goal

abbrev pub invariant-loop-place : goal.invariant-loop-place
invariant-loop-place l =
    (n b : ℕ) (e : Entry) → MayMiss l.universe (may_of l.state) n b e
    → list_any (may_serve l.universe e) (take l.place l.over) ≡ false
