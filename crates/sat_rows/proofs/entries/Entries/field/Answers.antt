use Rattle.std.proofs.Common.{◌≡◌, Some, subst}
use Rattle.std.specs.List.{slice_get}
use Rattle.sat_rows.specs.Entries.{IsNumberOf}
use Rattle.sat_rows.proofs.RowLaws.{all_zip_next}
use Rattle.sat_rows.proofs.NumberLaws.{grown_trans, all_zip_weaker}
use Rattle.sat_rows.proofs.entries.Entries.field.Goals as goal

pub loop-entry-preserved : goal.loop-entry-preserved
loop-entry-preserved c =
    let so_far = c.loop-entry.invariant in
    let old = c.loop-entry.self in
    let new = c.number.new.self in
    let grown = c.in_ok-number.ensures.grown in
    let n = c.in_ok-number.field-0 in (
      grown_trans c.args.self.now old new so_far.0 grown,
      rw c.in_ok-push.ensures.items
          (all_zip_next (IsNumberOf new) c.entries-entry-items.result.now c.loop-entry.numbers.items
          c.loop-entry.entry-index c.entry-item.result n c.loop-entry-test.true c.entry-item.is
          (all_zip_weaker (IsNumberOf old) (IsNumberOf new) (λ e n. grown n e) _ _ so_far.1)
          (subst (λ e. slice_get new n ≡ Some e) c.alternatives.ensures
          c.in_ok-number.ensures.number)),
    )
