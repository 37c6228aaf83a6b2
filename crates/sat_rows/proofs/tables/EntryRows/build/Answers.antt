use Rattle.std.proofs.Common.{sym, subst}
use Rattle.sat_rows.specs.Entries.{AreVariantNumbers}
use Rattle.sat_rows.specs.Links.{AreSets}
use Rattle.sat_rows.proofs.NumberLaws.{numbered_grown}
use Rattle.sat_rows.proofs.tables.EntryRows.build.Goals as goal

pub returns-clause-entries : goal.returns-clause-entries
returns-clause-entries g c =
    let u = c.args.universe.now in
    let entries = c.recipes.new.self in
    let rows = c.rows_beside_served-rows.ensures.rows entries
    (subst (AreSets u entries) (sym c.deref-2.ensures.value) c.in_ok-sets.ensures) in
    record {
      entries = entries;
      variants = numbered_grown c.names-2.new.self entries c.in_ok-needs.ensures.grown u
          c.in_ok-names.names.items c.in_ok-names.ensures.numbers;
      needs = c.in_ok-needs.ensures.numbers;
      rows_of = rw c.in_ok-rows.was at rows;
    }

pub returns-clause-served : goal.returns-clause-served
returns-clause-served g c =
    let u = c.args.universe.now in
    let entries = c.recipes.new.self in
    let sets = subst (AreSets u entries) (sym c.deref-2.ensures.value) c.in_ok-sets.ensures in
    let rows = c.rows_beside_served-rows.ensures.rows entries sets in
    let served = c.rows_beside_served-rows.ensures.served entries
    (subst (AreVariantNumbers u entries) (sym c.deref.ensures.value)
    (numbered_grown c.names-2.new.self entries c.in_ok-needs.ensures.grown u
    c.in_ok-names.names.items c.in_ok-names.ensures.numbers))
    sets in
    record {
      entries = entries;
      rows_of = rw c.in_ok-rows.was at rows;
      serving = rw c.in_ok-served.was at served;
    }
