use Rattle.std.proofs.Common.{◌≡◌, false, take}
use Rattle.plan_model.specs.Risk.{some_may_member}
use Rattle.may_rows.specs.Words.{may_of}
use Rattle.may_rows.proofs.members.some_may_member.Given as goal

abbrev pub invariant-loop-member : goal.invariant-loop-member
invariant-loop-member g l =
    some_may_member l.universe (take l.member-index l.members) (may_of l.state)
    (g.T.VariantTest.test l.universe l.test)
    ≡ false
