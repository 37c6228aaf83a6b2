use Rattle.plan_reader.proofs.Doubles.{new-once, old-twice}
use Rattle.plan_reader.proofs.Tallies.{not-new, not-old}
use Rattle.plan_reader.proofs.assembly.note_recipe.Goals as goal

pub returns-then-not-branch : goal.returns-then-not-branch
returns-then-not-branch c =
    old-twice c.args.published.now.keys c.args.recipe
    (not-new _ _ c.in_ok-insert.ensures.added c.if-not-branch.true)

pub returns : goal.returns
returns c =
    let new = not-old _ _ c.in_ok-insert.ensures.added c.if-not-branch.false in
    rw (c.in_ok-insert.ensures.keys, new)
    (new-once c.args.published.now.keys c.args.recipe c.requires new)
