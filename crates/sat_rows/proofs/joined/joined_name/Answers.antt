use Rattle.std.proofs.Common.{◌∙◌, ℕ, ◌+◌, List, [], ◌∷◌, length, length-append, sym, ap, subst, arith}
use Rattle.sat_rows.specs.declared.found.NumberWord.{NumberWord}
use Rattle.sat_rows.specs.Links.{IsJoined}
use Rattle.sat_rows.proofs.Gathered.{each_next}
use Rattle.sat_rows.proofs.JoinLaws.{joined_get}
use Rattle.sat_rows.proofs.joined.joined_name.Goals as goal

pub loop-bit-preserved : goal.loop-bit-preserved
loop-bit-preserved c =
    let so_far = c.loop-bit.invariant in
    let xs = c.loop-bit.lists.items in
    let x = c.in_ok-joined_at.field-0 in
    let P = λ (b : ℕ) (vs : List NumberWord). IsJoined c.args.entries.now c.args.by_entry.now b
    vs in
    let here = subst (λ b. P b x) (sym so_far.0) c.in_ok-joined_at.ensures in
    let long = length-append xs (x ∷ []) in (
      rw c.in_ok-push.ensures.items (long ∙ ap (λ k. k + 1) so_far.0),
      λ b lt. rw c.in_ok-push.ensures.items
          (each_next P xs x [] so_far.1 here b
          (let top = ap length c.in_ok-push.ensures.items ∙ long in omega (arith, lt, top))),
    )

pub returns : goal.returns
returns c =
    joined_get c.args.entries.now c.args.by_entry.now c.loop-bit.lists.items c.loop-bit.invariant.1
