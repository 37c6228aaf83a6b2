use Rattle.std.proofs.Common.{◌+◌, take}
use Rattle.std.specs.List.{list_any}
use Rattle.farm_model.specs.Packages.{satisfies}
use Rattle.sat_rows.proofs.FoundLaws.{finds_none, finds_next, any_next}
use Rattle.sat_rows.proofs.found.Found.add_entry.Goals as goal

pub loop-atom-init : goal.loop-atom-init
loop-atom-init c = finds_none c.args.universe.now c.args.self.now

pub loop-atom-preserved : goal.loop-atom-preserved
loop-atom-preserved c =
    let u = c.args.universe.now in
    let xs = c.args.entry.now in
    let i = c.loop-atom.atom-index in
    finds_next u (λ v. list_any (λ a. satisfies u a v) (take i xs))
    (satisfies u c.atom-item.result)
    (λ v. list_any (λ a. satisfies u a v) (take (i + 1) xs))
    c.args.self.now c.loop-atom.self c.add_atom.new.self
    (λ v. any_next (λ a. satisfies u a v) xs i c.atom-item.result c.loop-atom-test.true
    c.atom-item.is)
    c.loop-atom.invariant c.in_ok-add_atom.ensures
