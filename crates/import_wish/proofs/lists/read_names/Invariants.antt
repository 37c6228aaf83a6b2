use Rattle.std.proofs.Common.{◌≡◌, [], drop}
use Rattle.deb_text.specs.Lists.{lists}
use Rattle.import_wish.specs.Lists.{names_from}
use Rattle.import_wish.proofs.lists.read_names.Given as goal

abbrev pub invariant-loop-entry : goal.invariant-loop-entry
invariant-loop-entry l =
    names_from (lists l.names.items) (drop l.entry-index l.entries) ≡ names_from [] l.entries
