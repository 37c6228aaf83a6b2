use Rattle.std.proofs.Common.{◌<◌, length, sym, subst}
use Rattle.item_index.specs.Items.{KeepsItems, IsListed}
use Rattle.item_index.proofs.IndexLaws.{IsKept-with_listed, IsListed-with_listed}
use Rattle.item_index.proofs.index.ItemIndex.add.Goals as goal

pub returns-clause-kept : goal.returns-clause-kept
returns-clause-kept g c =
    let lists = c.args.self.now in
    let some : 0 < length lists = rw (← c.self.view_is) c.self.invariant in
    subst (λ new. KeepsItems lists new) (sym c.in_ok-put.ensures)
    (IsKept-with_listed lists some c.args.text.now c.args.item)

pub returns-clause-there : goal.returns-clause-there
returns-clause-there g c =
    let lists = c.args.self.now in
    let some : 0 < length lists = rw (← c.self.view_is) c.self.invariant in
    subst (λ new. IsListed new c.args.text.now c.args.item) (sym c.in_ok-put.ensures)
    (IsListed-with_listed lists some c.args.text.now c.args.item)
