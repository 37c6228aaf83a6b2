use Rattle.std.proofs.Common.{◌≡◌, ◌++◌, ◌&&◌, not}
use Rattle.may_rows.specs.Words.{may_of}
use Rattle.sat_rows.specs.Rows.{nth_entry}
use Rattle.explain_reasons.specs.Listed.{all_below, one_if}
use Rattle.explain_reasons.specs.Reasons.{asked, counts, meets, told}
use Rattle.explain_reasons.proofs.place.Place.push_entries.Given as goal

abbrev pub invariant-loop-entry : goal.invariant-loop-entry
invariant-loop-entry l =
    let u = l.self.universe.now in
    l.found.items ≡ l.initial.found.items ++ all_below l.entry (λ i.
    let e = nth_entry (asked u l.asking) i in
    one_if (counts u l.asking e && not (meets u (may_of l.state) l.asking e)) (told l.asking i))
