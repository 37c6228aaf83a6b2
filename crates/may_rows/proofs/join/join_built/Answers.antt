use Rattle.std.proofs.Common.{◌≡◌, arith, length, subst}
use Rattle.may_rows.specs.Joins.{BothBelow}
use Rattle.may_rows.proofs.JoinMaps.{both-end}
use Rattle.may_rows.proofs.join.join_built.Goals as goal

pub returns : goal.returns
returns c =
    let all : c.loop-recipe.recipe ≡ length c.loop-recipe.built =
    omega (
      arith,
      c.loop-recipe-test.false,
      c.loop-recipe.auto.built,
      c.loop-recipe.auto.recipe-end,
    ) in
    both-end c.args.first.now c.args.built.now c.loop-recipe.built c.requires
    (subst (λ k. BothBelow c.args.first.now c.args.built.now k c.loop-recipe.built) all
    c.loop-recipe.invariant)
