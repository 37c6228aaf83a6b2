use Rattle.std.proofs.Common.{sym, subst}
use Rattle.known_rows.specs.ByName.{KeepsListed, IsListedByName}
use Rattle.known_rows.proofs.NameLists.{IsKept-with_listed, IsListed-with_listed}
use Rattle.known_rows.proofs.by_name.ByName.add.Goals as goal

pub returns-clause-kept : goal.returns-clause-kept
returns-clause-kept c =
    subst (KeepsListed c.args.self.now) (sym c.in_ok-put.ensures)
    (IsKept-with_listed c.args.self.now c.args.name c.args.place c.requires)

pub returns-clause-there : goal.returns-clause-there
returns-clause-there c =
    subst (λ lists. IsListedByName lists c.args.name c.args.place) (sym c.in_ok-put.ensures)
    (IsListed-with_listed c.args.self.now c.args.name c.args.place c.requires)
