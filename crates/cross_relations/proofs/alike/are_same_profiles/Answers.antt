use Rattle.std.proofs.Common.{sym, ◌∙◌, arith}
use Rattle.std.proofs.lemmas.List.{take_all}
use Rattle.cross_relations.proofs.alike.are_same_profiles.Goals as goal

pub returns : goal.returns
returns c is =
    sym (take_all c.loop-place.place c.args.a.now (omega arith)) ∙ c.loop-place.invariant
    ∙ take_all c.loop-place.place c.args.b.now (omega (arith, c.if-a-b.false))
