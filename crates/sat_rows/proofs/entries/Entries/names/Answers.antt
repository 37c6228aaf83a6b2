use Rattle.std.proofs.Common.{[], sym, subst, arith, get_or}
use Rattle.sat_rows.specs.ByVariant.{AreValuesOfName}
use Rattle.sat_rows.specs.Entries.{AreNumbers, no_numbers}
use Rattle.sat_rows.proofs.Gathered.{each_next}
use Rattle.sat_rows.proofs.NumberLaws.{grown_trans, name_grown}
use Rattle.sat_rows.proofs.entries.Entries.names.Goals as goal

pub loop-name-preserved : goal.loop-name-preserved
loop-name-preserved c =
    let so_far = c.loop-name.invariant in
    let u = c.args.universe.now in
    let old = c.loop-name.self in
    let new = c.name.new.self in
    let grown = c.in_ok-name.ensures.grown in
    let pushed = c.in_ok-push.ensures in
    let P = AreValuesOfName u (AreNumbers u new) no_numbers in
    let xs = c.loop-name.names.items in
    let x = c.in_ok-name.field-0 in
    let here = subst (λ n. P n x) (sym so_far.1) c.in_ok-name.ensures.numbers in (
      grown_trans c.args.self.now old new so_far.0 grown,
      omega arith,
      λ n lt. rw pushed.items
          (each_next P xs x []
          (λ n lt. name_grown old new grown u n (get_or xs n []) (so_far.2 n (omega arith))) here n
          (omega arith)),
    )
