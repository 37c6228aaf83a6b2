use Rattle.std.proofs.Common.{◌+◌, take, subst}
use Rattle.std.specs.List.{list_any}
use Rattle.farm_model.specs.Packages.{satisfies_entry}
use Rattle.sat_rows.specs.Found.{Finds}
use Rattle.sat_rows.proofs.FoundLaws.{finds_none, finds_next, any_next}
use Rattle.sat_rows.proofs.found.Found.add_field.Goals as goal

pub loop-entry-init : goal.loop-entry-init
loop-entry-init c = finds_none c.args.universe.now c.args.self.now

pub loop-entry-preserved : goal.loop-entry-preserved
loop-entry-preserved c =
    let u = c.args.universe.now in
    let xs = c.entries-entry-items.result.now in
    let i = c.loop-entry.entry-index in
    finds_next u (λ v. list_any (λ e. satisfies_entry u e v) (take i xs))
    (satisfies_entry u c.entry-item.result)
    (λ v. list_any (λ e. satisfies_entry u e v) (take (i + 1) xs))
    c.args.self.now c.loop-entry.self c.add_entry.new.self
    (λ v. any_next (λ e. satisfies_entry u e v) xs i c.entry-item.result c.loop-entry-test.true
    c.entry-item.is)
    c.loop-entry.invariant
    (subst (λ e. Finds u (satisfies_entry u e) c.loop-entry.self c.add_entry.new.self)
    c.alternatives.ensures c.in_ok-add_entry.ensures)
