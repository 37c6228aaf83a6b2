use Rattle.std.proofs.Common.{ℕ, List, [], sym, subst, arith, get_or}
use Rattle.std.specs.List.{AllZip}
use Rattle.farm_model.specs.Common.{Recipe, recipe}
use Rattle.sat_rows.specs.Entries.{IsNumberOf}
use Rattle.sat_rows.proofs.Gathered.{each_next}
use Rattle.sat_rows.proofs.NumberLaws.{grown_trans, all_zip_weaker}
use Rattle.sat_rows.proofs.entries.Entries.recipes.Goals as goal

pub loop-number-preserved : goal.loop-number-preserved
loop-number-preserved c =
    let so_far = c.loop-number.invariant in
    let u = c.args.universe.now in
    let old = c.loop-number.self in
    let new = c.field.new.self in
    let grown = c.in_ok-needs.ensures.grown in
    let pushed = c.in_ok-push.ensures in
    let P = λ (r : ℕ) (ns : List ℕ). AllZip (IsNumberOf new) (recipe u r).needs ns in
    let xs = c.loop-number.recipes.items in
    let x = c.in_ok-needs.needs.items in
    let r = c.loop-number.number in
    let here = subst (λ r. P r x) (sym so_far.1)
    (subst (λ (r : Recipe). AllZip (IsNumberOf new) r.needs x) c.recipe.ensures
    (subst (λ es. AllZip (IsNumberOf new) es x) c.needs.ensures c.in_ok-needs.ensures.numbers)) in (
      grown_trans c.args.self.now old new so_far.0 grown,
      omega arith,
      λ r lt. rw pushed.items
          (each_next P xs x []
          (λ r lt. all_zip_weaker (IsNumberOf old) (IsNumberOf new) (λ e n. grown n e) _
          (get_or xs r []) (so_far.2 r (omega arith))) here r (omega arith)),
    )
