use Rattle.std.proofs.Common.{sym, ◌∙◌}
use Rattle.deb_relation.specs.Satisfaction.{is_its_own, provides_it}
use Rattle.farm_model.specs.Packages.{facts, satisfies}
use Rattle.sat_rows.specs.Found.{some_atom}
use Rattle.sat_rows.proofs.FoundLaws.{finds_next, finds_never, satisfies-bare, satisfies-qualified}
use Rattle.sat_rows.proofs.found.Found.add_atom.Goals as goal

pub returns-then-not-is_bare : goal.returns-then-not-is_bare
returns-then-not-is_bare c =
    let u = c.args.universe.now in
    let a = c.args.atom.now in
    finds_never u (satisfies u a) c.args.self.now
    (λ v. satisfies-qualified u v a (sym c.is_bare.ensures ∙ c.if-not-is_bare.true))

pub returns : goal.returns
unfolding facts
returns c =
    let u = c.args.universe.now in
    let a = c.args.atom.now in
    let bare = sym c.is_bare.ensures ∙ c.if-not-is_bare.false in
    finds_next u (λ v. is_its_own (facts u v) a)
    (some_atom u (λ binary. binary.provides) (provides_it a)) (satisfies u a) c.args.self.now
    c.add_own.new.self c.add_listed.new.self (λ v. satisfies-bare u v a bare)
    c.in_ok-add_own.ensures c.in_ok-add_listed.ensures
