use Rattle.std.proofs.Common.{sym}
use Rattle.deb_profile.proofs.ReductionLaws.{bare-entry}
use Rattle.deb_profile.proofs.reduction.strip_entry.Goals as goal

pub returns-then-is_bare_entry : goal.returns-then-is_bare_entry
returns-then-is_bare_entry c =
    let bare = sym c.if-is_bare_entry.ensures in
    sym (bare-entry c.args.names.now c.args.active.now c.args.entry bare)
