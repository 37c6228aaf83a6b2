use Rattle.std.proofs.Common.{append_assoc}
use Rattle.explain_reasons.proofs.place.Place.push_of.Goals as goal

pub returns-in_ok-push_entries-in-Needed : goal.returns-in_ok-push_entries-in-Needed
returns-in_ok-push_entries-in-Needed c =
    rw (c.in-Needed.is, ← append_assoc, ← c.in_ok-push_entries-in-Needed.ensures)
    c.push_entries-in-Needed-2.ensures
