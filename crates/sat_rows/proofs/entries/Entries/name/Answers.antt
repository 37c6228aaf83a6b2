use Rattle.std.proofs.Common.{ℕ, sym, subst, arith, get_or}
use Rattle.farm_model.specs.Packages.{variant}
use Rattle.sat_rows.specs.Entries.{Numbers, AreNumbers, no_numbers}
use Rattle.sat_rows.proofs.Gathered.{each_next}
use Rattle.sat_rows.proofs.NumberLaws.{grown_trans, numbers_grown}
use Rattle.sat_rows.proofs.entries.Entries.name.Goals as goal

pub loop-bit-preserved : goal.loop-bit-preserved
loop-bit-preserved c =
    let so_far = c.loop-bit.invariant in
    let u = c.args.universe.now in
    let old = c.loop-bit.self in
    let new = c.variant.new.self in
    let grown = c.in_ok-variant.ensures.grown in
    let pushed = c.in_ok-push.ensures in
    let P = λ (b : ℕ) (ns : Numbers). AreNumbers u new (variant c.args.name b) ns in
    let xs = c.loop-bit.variants.items in
    let x = c.in_ok-variant.field-0 in
    let here = subst (λ b. P b x) (sym so_far.1) c.in_ok-variant.ensures.numbers in (
      grown_trans c.args.self.now old new so_far.0 grown,
      omega arith,
      λ b lt. rw pushed.items
          (each_next P xs x no_numbers
          (λ b lt. numbers_grown old new grown u (variant c.args.name b) (get_or xs b no_numbers)
          (so_far.2 b (omega arith))) here b (omega arith)),
    )
