use Rattle.std.proofs.Common.{sym, ap, ◌∙◌}
use Rattle.deb_text.specs.Lists.{lists}
use Rattle.debian_index.proofs.SpreadLaws.{names-put}
use Rattle.debian_index.proofs.names.architecture_names.Goals as goal

pub returns : goal.returns
returns c =
    names-put c.args.architecture.now _ _ _ c.in_ok-names.ensures
    c.in_ok-push_with_system.ensures c.in_ok-push_known.ensures
