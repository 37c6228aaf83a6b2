use Rattle.wait_order.proofs.Leading.{made_wait}
use Rattle.wait_order.proofs.standing.make.Goals as goal

pub returns-in_ok-push-in-Wait-clause-made : goal.returns-in_ok-push-in-Wait-clause-made
returns-in_ok-push-in-Wait-clause-made c =
    made_wait c.args.course.universe.now c.args.number c.args.instruction.now _
    c.args.order.now.items
    c.args.archive.now c.push.new.self.items
    c.in_ok-passes-in-Wait.field-0 c.in-Wait.is c.requires.archive
    c.in_ok-passes-in-Wait.ensures.passes c.if-not-branch.false
    c.in_ok-push-in-Wait.ensures.items
