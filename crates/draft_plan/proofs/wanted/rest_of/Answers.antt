use Rattle.std.proofs.Common.{◌++◌, ◌∷◌, [], cond, sym, ap, ◌∙◌}
use Rattle.draft_plan.specs.Wanted.{is_free}
use Rattle.draft_plan.proofs.Ranges.{passing-more}
use Rattle.draft_plan.proofs.wanted.rest_of.Goals as goal

pub loop-recipe-preserved : goal.loop-recipe-preserved
loop-recipe-preserved c =
    let r = c.loop-recipe.recipe in
    let f = is_free c.args.lanes.now in
    c.in_ok-push_free.ensures
    ∙ ap (λ xs. xs ++ cond (f r) (r ∷ []) []) c.loop-recipe.invariant
    ∙ sym (passing-more f r)
