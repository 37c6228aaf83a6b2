use Rattle.std.proofs.Common.{sym, subst, ◌∙◌}
use Rattle.sat_rows.specs.Tables.{EntryRows, AreEntryRows, AreKept}
use Rattle.sat_rows.specs.Served.{AreServed}
use Rattle.sat_rows.proofs.tables.Tables.build.Goals as goal

pub invariant_of-result : goal.invariant_of-result
invariant_of-result g c =
    let u = c.args.universe.now in
    let both = c.rows_beside_exclusions-rows.ensures in
    let entries = rw c.in_ok-rows.was at both.entries in
    let served = rw c.in_ok-rows.was at both.served in
    let exclusions = rw c.in_ok-exclusions.was at both.exclusions in
    subst
    (λ v. AreKept v c.rows.inside.names.items c.rows.inside.needs.items c.rows.inside.rows.items
    c.in_ok-exclusions.exclusions.conflicts c.in_ok-exclusions.exclusions.breaks
    c.in_ok-exclusions.exclusions.clashes.items
    c.in_ok-providers.providers c.in_ok-empty.empty c.rows.inside.served)
    (sym c.of.ensures)
    (record {
      entries = subst (λ (x : EntryRows). AreEntryRows u x.names x.needs x.rows)
          (sym c.rows.view_is) entries;
      served_by = subst (λ (x : EntryRows). AreServed u x.rows x.served)
          (sym c.rows.view_is) served;
      conflicts = exclusions.conflicts;
      breaks = exclusions.breaks;
      clashes = exclusions.clashes;
      providers = c.in_ok-providers.ensures;
      long = c.in_ok-empty.ensures.len ∙ c.names.ensures.number;
      none = c.in_ok-empty.ensures.set;
    })
