use Rattle.std.proofs.Common.{None, sym, ap, ◌∙◌, subst, arith}
use Rattle.plan_model.specs.May.{May}
use Rattle.plan_verifier.specs.Branch.{JoinedBy}
use Rattle.plan_verifier.proofs.branch.LaneMay.end.Goals as goal

pub phases_differ-requires-clause-first : goal.phases_differ-requires-clause-first
phases_differ-requires-clause-first c =
    c.requires.first c.in-Second.at c.in-Second.first
    (sym c.replace.ensures.value ∙ c.in-Second.is)

pub join-requires-clause-first : goal.join-requires-clause-first
join-requires-clause-first c =
    c.requires.first c.in-Second.at c.in-Second.first
    (sym c.replace.ensures.value ∙ c.in-Second.is)

pub returns-in-Second : goal.returns-in-Second
returns-in-Second c of held =
    let is = sym c.replace.ensures.value ∙ c.in-Second.is in
    let first = held.first c.in-Second.at c.in-Second.first is in
    let cost = ap (λ (m : May). m.cost) c.join.ensures.map in
    subst (λ b. JoinedBy c.args.universe.now of c.args.self.now
    (record { here = c.join.new.self; doubts = c.forget.new.self; branch = c.replace.new.dest }) b
    None) (sym is) (
      sym c.phases_differ.ensures ∙ c.if-phases_differ.false,
      c.join.ensures.map,
      record {
        based = held.here.based;
        small = held.here.small;
        words = c.join.ensures.words;
        within = omega (arith, cost, first.within, held.here.within);
      },
      c.forget.ensures,
      c.replace.ensures.after,
    )
