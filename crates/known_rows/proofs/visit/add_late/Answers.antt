use Rattle.std.proofs.Common.{inl, inr, sym, subst}
use Rattle.std.specs.List.{Contains}
use Rattle.std.proofs.lemmas.List.Elements.{Contains-push, Contains-append_left}
use Rattle.known_rows.proofs.visit.add_late.Goals as goal

pub returns-then-is_in_turn-clause-placed : goal.returns-then-is_in_turn-clause-placed
returns-then-is_in_turn-clause-placed c = inr (c.is_in_turn.ensures c.if-is_in_turn.true)

pub returns-clause-kept : goal.returns-clause-kept
returns-clause-kept c =
    λ v h. subst (λ xs. Contains xs v) (sym c.in_ok-push.ensures.items)
    (Contains-append_left c.args.late.now.items _ v h)

pub returns-clause-placed : goal.returns-clause-placed
returns-clause-placed c =
    inl (subst (λ xs. Contains xs c.args.w) (sym c.in_ok-push.ensures.items)
    (Contains-push c.args.late.now.items c.args.w))
