use Rattle.std.proofs.Common.{◌≡◌, All, take}
use Rattle.std.specs.List.{fold}
use Rattle.may_rows.specs.Configures.{name_configured}
use Rattle.may_rows.specs.Words.{HasName}
use Rattle.may_rows.proofs.configure.configure_each.Given as goal

abbrev pub invariant-loop-place : goal.invariant-loop-place
invariant-loop-place l = record {
  members : All (HasName l.state) l.members;
  words : l.state ≡ fold name_configured l.initial.state (take l.place l.members);
}
