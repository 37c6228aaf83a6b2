use Rattle.std.proofs.Common.{ℕ, List, [], sym, subst, arith, get_or}
use Rattle.farm_model.specs.Packages.{variants}
use Rattle.sat_rows.specs.declared.found.NumberWord.{NumberWord}
use Rattle.sat_rows.specs.Links.{IsNumbered}
use Rattle.sat_rows.proofs.Gathered.{each_next}
use Rattle.sat_rows.proofs.NumberLaws.{grown_trans}
use Rattle.sat_rows.proofs.NoteLaws.{numbered_grown}
use Rattle.sat_rows.proofs.entries.Entries.noted.Goals as goal

pub loop-name-preserved : goal.loop-name-preserved
loop-name-preserved g c =
    let so_far = c.loop-name.invariant in
    let u = c.args.universe.now in
    let field = g.F.Field.field in
    let old = c.loop-name.self in
    let new = c.noted_name.new.self in
    let grown = c.in_ok-noted_name.ensures.grown in
    let pushed = c.in_ok-push.ensures in
    let P = λ (n : ℕ) (vs : List NumberWord). IsNumbered u field new n (variants u n) vs in
    let xs = c.loop-name.lists.items in
    let x = c.in_ok-noted_name.field-0 in
    let here = subst (λ n. P n x) (sym so_far.1) c.in_ok-noted_name.ensures.noted in (
      grown_trans c.args.self.now old new so_far.0 grown,
      omega arith,
      λ n lt. rw pushed.items
          (each_next P xs x []
          (λ n lt. numbered_grown old new grown u field n (variants u n) (get_or xs n [])
          (so_far.2 n (omega arith))) here n (omega arith)),
    )
