use Rattle.std.proofs.Common.{length, subst}
use Rattle.sat_rows.specs.Links.{AreTurned}
use Rattle.sat_rows.proofs.served.Served.build.Goals as goal

pub returns : goal.returns
returns c entries numbered are = record {
  noted = c.in_ok-noted.noted.items;
  sets = c.args.sets.now;
  are_noted = c.in_ok-noted.ensures entries numbered;
  are_sets = are;
  satisfied = subst (λ n. AreTurned c.args.sets.now n c.in_ok-satisfied.satisfied.items)
      c.names.ensures.number c.in_ok-satisfied.ensures;
  owners = subst (λ lists. AreTurned lists (length c.args.sets.now) c.in_ok-owners.owners.items)
      c.deref.ensures.value c.in_ok-owners.ensures;
}
